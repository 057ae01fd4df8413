pub mod Decided
pub mod GuestFences
