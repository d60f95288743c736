pub mod Epoch
pub mod RoundTrip
