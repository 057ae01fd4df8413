-- Numbers, registers and what instructions see of them
pub mod Bits
pub mod Widths
pub mod Registers
pub mod CsrNames
pub mod CsrBits
pub mod CsrAccess
pub mod Roots
-- Traps and interrupts
pub mod Traps
pub mod Interrupts
-- Memory as bytes, and in frames
pub mod Memory
pub mod Ram
pub mod Frames
pub mod Layouts
pub mod MemoryLaws
-- Walks of tables
pub mod TableEntries
pub mod Permits
pub mod Walk
pub mod Translation
pub mod SecondStage
-- Cached translations
pub mod WalkedEntries
pub mod CachedEntries
pub mod Spaces
pub mod FirstEntries
pub mod FirstBuffers
-- The execution environment: clock, console, calls and waits
pub mod Clocks
pub mod Inputs
pub mod Consoles
pub mod Devices
pub mod Calls
pub mod Waits
