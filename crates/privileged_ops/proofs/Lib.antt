pub mod Changes
pub mod Returns
