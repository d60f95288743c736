pub mod Knowing
pub mod Moments
pub mod Images
