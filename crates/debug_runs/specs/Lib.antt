pub mod HostRuns
