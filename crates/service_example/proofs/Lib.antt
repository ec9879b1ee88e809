pub mod Below
pub mod Quick
pub mod Computed
pub mod Example
