pub mod EndLines
pub mod Ends
pub mod GuestWords
pub mod Guests
