mod Commits
pub mod Drawings
pub mod RunLists
pub mod Marking
pub mod MarkRecords
mod Takes
pub mod JobRuns
mod Keeps
mod Stops
mod RoundRuns
mod Takings
mod Rounds
mod Begun
pub mod Alike
mod Determined
mod InputReads
pub mod Moments
mod MachineDisk
mod MachineRuns
mod MachineOutside
mod JobStages
mod MachineRound
mod MachineEvents
mod MachineDrawn
mod CallEvents
