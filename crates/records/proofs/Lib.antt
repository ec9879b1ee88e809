pub mod States
pub mod Stretching
