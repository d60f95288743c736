pub mod Register
pub mod Listing
pub mod Guest
