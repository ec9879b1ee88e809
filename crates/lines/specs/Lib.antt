pub mod Lines
pub mod Reasons
pub mod Stores
