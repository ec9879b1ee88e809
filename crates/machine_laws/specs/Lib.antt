pub mod Valid
pub mod Cells
