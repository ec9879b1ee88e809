pub mod Widths
pub mod Refusals
pub mod Service
pub mod Isolation
pub mod Tightness
pub mod Examples
pub mod Editions
