pub mod Allowed
pub mod InMemory
pub mod OnPage
