pub mod CommandLine
pub mod Commands
pub mod Fault
pub mod Found
