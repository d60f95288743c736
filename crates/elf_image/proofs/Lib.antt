pub mod Entries
pub mod NextPages
pub mod PageBytes
pub mod StartPages
