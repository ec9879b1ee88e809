pub mod Example
pub mod Needed
