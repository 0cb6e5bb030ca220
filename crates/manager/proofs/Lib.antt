pub mod StepLaws
pub mod Turns
