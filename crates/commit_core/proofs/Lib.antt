mod Commits
mod Notes
pub mod Judges
