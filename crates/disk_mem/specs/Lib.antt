pub mod Counted
pub mod Fails
pub mod Replay
pub mod Recording
pub mod Crashing
pub mod MemoryWorld
pub mod MemoryFiles
pub mod MemoryInput
