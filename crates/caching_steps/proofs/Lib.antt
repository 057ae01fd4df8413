pub mod Latest
mod Matching
pub mod Names
pub mod Renewing
pub mod Steps
mod UsedOnes
