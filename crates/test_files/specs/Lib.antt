pub mod Bytes
pub mod Guest
