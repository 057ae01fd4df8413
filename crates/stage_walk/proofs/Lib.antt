mod Alignment
pub mod Chains
pub mod EntryWords
pub mod Fitting
pub mod Flag
pub mod Leaves
pub mod Levels
pub mod MetPlaces
pub mod NotedWalks
mod Pointers
