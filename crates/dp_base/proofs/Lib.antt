pub mod Fields
pub mod Records
pub mod Epochs
pub mod Sizes
pub mod Many
pub mod Whole
pub mod Lists
