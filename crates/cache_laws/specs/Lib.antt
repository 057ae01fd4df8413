pub mod Caching
pub mod ShortRuns
