pub mod Register
pub mod Checkpoint
pub mod View
