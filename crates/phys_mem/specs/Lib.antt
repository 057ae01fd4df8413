pub mod MemoryBytes
