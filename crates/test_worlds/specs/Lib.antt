pub mod Outside
pub mod Letters
