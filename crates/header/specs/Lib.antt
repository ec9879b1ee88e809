pub mod Header
pub mod Entry
pub mod ReadBack
