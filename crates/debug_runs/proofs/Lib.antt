pub mod OneGuest
