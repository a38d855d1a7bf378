pub mod BytesLaws
pub mod StepLaws
