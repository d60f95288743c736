pub mod Logs
pub mod Steps
pub mod Items
pub mod Calls
pub mod Openings
pub mod Closings
pub mod Distinct
