mod Fetched
mod Forms
mod Encodings
mod Decodings
mod Frames
pub mod Memories
pub mod Kept
