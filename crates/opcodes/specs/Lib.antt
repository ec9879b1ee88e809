pub mod Decode
pub mod Bytes
pub mod Listed
