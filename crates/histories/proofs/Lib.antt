pub mod Lists
pub mod Every
pub mod Closing
pub mod Computed
