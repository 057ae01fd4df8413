-- What registers and the reservation hold
pub mod StorableStates
pub mod Reservations
-- What is cached
pub mod Keys
pub mod FirstKeys
-- Inputs
pub mod UnreadInputs
