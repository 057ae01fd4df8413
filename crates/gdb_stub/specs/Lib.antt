pub mod Answers
pub mod Looking
pub mod Registers
pub mod Sessions
pub mod Talks
