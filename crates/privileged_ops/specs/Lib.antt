pub mod PrivilegedEnds
