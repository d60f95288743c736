pub mod Going
pub mod Moments
pub mod Stretches
pub mod Links
pub mod Parts
mod Finding
mod Marks
mod Epochs
mod Starting
mod Plays
mod Counting
mod Listing
