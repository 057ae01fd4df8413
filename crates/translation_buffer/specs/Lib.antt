pub mod Holding
pub mod Laws
pub mod Lookups
pub mod Places
pub mod Serving
pub mod Tags
pub mod WalkCounts
