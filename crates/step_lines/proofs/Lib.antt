pub mod Ends
pub mod Seconds
