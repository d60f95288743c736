pub mod Writing
pub mod Sending
