pub mod Facts
pub mod Rounds
