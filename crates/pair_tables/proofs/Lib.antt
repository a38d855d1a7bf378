pub mod TableLaws
pub mod StepKept
pub mod StepSound
