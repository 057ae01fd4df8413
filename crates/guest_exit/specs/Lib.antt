-- A guest as the host has it, and its machine
pub mod View
pub mod Starting
pub mod Steps
-- The entry of the hart
pub mod HartEntry
-- The exit from it
pub mod HartExit
pub mod LeftSteps
-- What its next step is about to do
pub mod NextSteps
