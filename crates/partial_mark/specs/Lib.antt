pub mod Partial
pub mod Base
pub mod View
