pub mod Results
pub mod Offers
pub mod Deposits
pub mod Takes
pub mod Rounds
pub mod Racers
pub mod Streams
pub mod Finishing
