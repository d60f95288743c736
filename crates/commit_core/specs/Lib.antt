pub mod Judging
pub mod Noting
pub mod JudgedRound
