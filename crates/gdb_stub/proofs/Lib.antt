pub mod Keeping
pub mod Reading
pub mod Seen
pub mod Talking
