pub mod Asked
pub mod HeldCounts
pub mod Inputs
pub mod StaleLines
pub mod Texts
pub mod Told
