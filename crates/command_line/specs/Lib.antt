pub mod CommandLines
pub mod Commands
pub mod Seen
