pub mod Scripts
pub mod Former
pub mod Written
