mod Marked
pub mod Statuses
mod Halves
mod Replays
mod Inspections
mod SelfTests
mod Moments
