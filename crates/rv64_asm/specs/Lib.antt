pub mod Words
pub mod Fitting
pub mod Laws
pub mod Plans
