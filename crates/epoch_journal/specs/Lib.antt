pub mod Standing
pub mod Images
pub mod Beginning
pub mod Appending
pub mod ReadWhole
