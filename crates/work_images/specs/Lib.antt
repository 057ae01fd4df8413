pub mod Numbers
pub mod Commands
pub mod Instructions
pub mod Lines
pub mod Program
pub mod Guests
pub mod Laws
pub mod Noise
