pub mod Drawing
pub mod Adding
pub mod Parts
pub mod Images
