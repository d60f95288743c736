pub mod Asking
pub mod Running
pub mod Answer
pub mod Moments
pub mod SelfTesting
