pub mod HexDigits
pub mod Names
mod Pieces
