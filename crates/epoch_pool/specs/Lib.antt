pub mod Pool
pub mod Assigning
