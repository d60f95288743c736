pub mod Filled
pub mod Keeps
pub mod Named
pub mod Spans
pub mod Crashes
pub mod PiecesGiven
pub mod Readings
