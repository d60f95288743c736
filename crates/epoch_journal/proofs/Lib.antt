pub mod ReadsAs
pub mod AtRest
pub mod OnDisk
mod OnEmptyDisk
pub mod Chunks
