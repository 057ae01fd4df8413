pub mod Digits
pub mod Frames
pub mod Laws
pub mod Streams
