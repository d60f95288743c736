pub mod Sends
pub mod Pieces
pub mod Notes
mod Writes
