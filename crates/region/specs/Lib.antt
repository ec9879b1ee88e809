pub mod Ends
pub mod Numbers
pub mod Region
