pub mod Bytes
pub mod Types
