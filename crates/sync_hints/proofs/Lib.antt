mod ByKey
pub mod Orders
