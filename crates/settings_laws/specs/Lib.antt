pub mod Locked
pub mod Headers
pub mod Routing
pub mod Stored
