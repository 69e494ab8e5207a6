pub mod Unrolling
pub mod Reading
pub mod Goals
