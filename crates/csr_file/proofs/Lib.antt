pub mod Apart
pub mod Delegated
pub mod Masks
pub mod Reaching
pub mod ReadingBack
pub mod Refusals
pub mod Roots
pub mod Statuses
