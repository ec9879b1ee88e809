pub mod Nesting
pub mod Moving
