pub mod Jobs
pub mod Handing
pub mod Starting
pub mod RoundEnds
mod Singles
