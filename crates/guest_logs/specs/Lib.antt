pub mod HostTries
