pub mod Befores
pub mod StaleUses
pub mod StepTexts
pub mod Tries
