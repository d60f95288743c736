pub mod History
pub mod Known
pub mod Steps
pub mod Moments
pub mod Directory
pub mod Input
