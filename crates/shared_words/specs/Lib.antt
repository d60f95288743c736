pub mod Closing
pub mod Copied
pub mod Contended
pub mod Layout
pub mod Logged
pub mod NoTable
pub mod Rule
pub mod Words
