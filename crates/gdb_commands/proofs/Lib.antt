pub mod Beginnings
pub mod Digits
