pub mod FirstRuns
pub mod FreeRuns
pub mod FreeSteps
pub mod FreshRuns
pub mod KeyedEntries
pub mod ShortRuns
