pub mod Mentioned
pub mod Places
pub mod Reading
