pub mod Scopes
pub mod Readings
pub mod Sources
