pub mod SayLaws
pub mod EvenLaws
pub mod ListLaws
