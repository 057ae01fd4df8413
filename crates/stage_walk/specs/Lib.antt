pub mod ByLevels
pub mod Ends
pub mod Laws
pub mod Meeting
pub mod Reads
pub mod Words
