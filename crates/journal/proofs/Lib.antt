pub mod Bytes
pub mod Answering
