pub mod Bodies
pub mod Gate
