pub mod StandLaws
pub mod GrowLaws
pub mod SeenLaws
pub mod MarkLaws
