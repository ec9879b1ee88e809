pub mod Replays
pub mod Texts
pub mod Written
pub mod Example
