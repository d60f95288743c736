mod Skipping
pub mod PartialCode
pub mod Applying
