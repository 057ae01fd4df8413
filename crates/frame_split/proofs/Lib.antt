pub mod Between
pub mod Sums
pub mod Sharing
pub mod Spare
