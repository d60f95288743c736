pub mod LineLemmas
pub mod Passing
pub mod Kept
pub mod Present
pub mod Found
pub mod Values
