pub mod Output
pub mod Player
pub mod Walks
