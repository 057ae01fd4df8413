pub mod Moving
pub mod Stopping
