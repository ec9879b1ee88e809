pub mod Reading
pub mod Limits
pub mod Formerly
pub mod Checking
pub mod Writing
