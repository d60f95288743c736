pub mod File
pub mod Segment
pub mod Faults
pub mod Image
pub mod Next
