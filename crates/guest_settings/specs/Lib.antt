pub mod Inputs
pub mod Limits
pub mod Needs
pub mod Sections
