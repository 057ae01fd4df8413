pub mod Laws
pub mod Moves
pub mod Slots
pub mod Slotted
