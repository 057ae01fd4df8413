pub mod GuestWords
pub mod LoadedPlans
pub mod LoneMachines
pub mod OwnSteps
pub mod Statuses
