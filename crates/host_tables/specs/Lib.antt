pub mod HostTable
pub mod Walks
