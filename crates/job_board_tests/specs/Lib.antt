pub mod Crews
pub mod Rounds
