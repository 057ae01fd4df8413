pub mod Acts
pub mod MadeAccesses
pub mod StepLines
