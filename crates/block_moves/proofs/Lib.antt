pub mod Blocks
pub mod Copies
pub mod RamMoving
pub mod Stages
