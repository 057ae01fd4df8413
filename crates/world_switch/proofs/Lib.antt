pub mod FirstStage
pub mod Instructions
pub mod Registers
pub mod Undone
