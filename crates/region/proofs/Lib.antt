pub mod Ends
pub mod Laws
pub mod Masks
pub mod Numbers
pub mod Sizes
pub mod Usable
pub mod Zeros
