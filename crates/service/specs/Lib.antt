pub mod NoMark
pub mod Back
pub mod Stored
pub mod Asked
