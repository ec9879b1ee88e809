pub mod Doing
pub mod Leaving
pub mod Registers
pub mod Segments
pub mod Changing
pub mod Storing
pub mod Asked
