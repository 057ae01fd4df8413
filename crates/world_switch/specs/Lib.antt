pub mod Hosting
pub mod Laws
