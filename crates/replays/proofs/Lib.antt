pub mod Lines
pub mod Texts
pub mod After
pub mod Written
pub mod Example
