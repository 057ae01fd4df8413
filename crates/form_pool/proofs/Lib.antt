pub mod Sharing
pub mod Pieces
pub mod Lengths
