pub mod Pointers
pub mod Readings
pub mod Words
