pub mod Joined
pub mod Last
