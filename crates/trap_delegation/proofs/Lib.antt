pub mod Restored
pub mod Due
