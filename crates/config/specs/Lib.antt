pub mod Ports
pub mod Numbers
