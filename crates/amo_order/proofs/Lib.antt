pub mod Finding
pub mod Replacings
pub mod Answering
