pub mod Looks
pub mod Positions
pub mod Stops
