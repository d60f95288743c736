pub mod State
pub mod Sink
pub mod Reading
pub mod Against
