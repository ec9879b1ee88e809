pub mod Histories
pub mod Closed
pub mod Example
