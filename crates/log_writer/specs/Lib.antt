pub mod Counting
pub mod Logging
pub mod PlainRuns
pub mod StaleLogs
pub mod Steps
