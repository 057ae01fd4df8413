pub mod Debugging
pub mod Endings
