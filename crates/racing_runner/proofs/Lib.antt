pub mod Stretches
pub mod Offering
mod Giving
