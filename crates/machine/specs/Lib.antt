pub mod Machines
pub mod Outcomes
pub mod Service
pub mod Steps
