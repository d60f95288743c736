pub mod Queue
pub mod Items
pub mod Passes
pub mod Answers
pub mod Opening
