pub mod Changed
pub mod FewUses
mod Told
pub mod Uncached
mod Unique
