pub mod Endings
pub mod Tracing
