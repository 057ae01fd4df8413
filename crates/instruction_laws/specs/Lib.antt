-- How an instruction ends
pub mod InstructionEnds
-- Places of the host in place of the guest's
pub mod Renaming
pub mod HostPlaces
pub mod MissedPlaces
-- The space in front
pub mod FrontSpaces
