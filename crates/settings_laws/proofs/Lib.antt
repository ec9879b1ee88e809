pub mod Lock
pub mod Place
pub mod Routing
pub mod Stored
