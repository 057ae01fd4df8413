-- Cached translations with their keys
pub mod EachEntry
pub mod GivenEntries
-- Fills of a step, and how many there are
pub mod Keeping
pub mod Budgets
-- The laws
pub mod Laws
