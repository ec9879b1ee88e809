pub mod Searching
pub mod Holding
pub mod Passing
