pub mod ReadBack
pub mod Storing
