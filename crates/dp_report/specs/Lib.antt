pub mod StatusNumber
pub mod Texts
