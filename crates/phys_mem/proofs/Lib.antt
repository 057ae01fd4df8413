pub mod FrameBytes
pub mod PiecesLaid
pub mod Places
pub mod Views
