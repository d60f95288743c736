pub mod Steps
pub mod Codes
pub mod CheckpointCode
pub mod Many
pub mod Scanning
