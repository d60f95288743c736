pub mod Reservations
mod ReadTurns
pub mod PlainWords
