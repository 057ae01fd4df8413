mod CountLines
mod CountOrder
pub mod Counting
mod Idle
mod LoggedSteps
pub mod Logging
mod Making
mod NextFills
mod PlainRuns
mod PlainSteps
pub mod Putting
mod StaleNotes
