pub mod Turns
pub mod Stretch
