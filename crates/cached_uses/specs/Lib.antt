pub mod Serving
pub mod StepUses
