pub mod Records
pub mod Lists
pub mod Files
pub mod Places
