pub mod Storing
pub mod Raising
