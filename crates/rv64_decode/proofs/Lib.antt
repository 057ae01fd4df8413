pub mod Immediates
pub mod Indices
