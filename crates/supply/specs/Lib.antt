pub mod Supplied
pub mod Windows
