pub mod Added
pub mod Each
pub mod KnownAddresses
pub mod Leading
pub mod Lists
pub mod OwnUses
pub mod Places
pub mod Shown
