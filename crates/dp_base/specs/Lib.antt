pub mod Counts
pub mod Field
pub mod Journal
pub mod Encoding
pub mod View
pub mod Memory
