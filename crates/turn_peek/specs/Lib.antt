pub mod Arguments
pub mod ReadCall
pub mod Peek
