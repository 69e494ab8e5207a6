pub mod Words
pub mod Operations
pub mod Constants
pub mod Blasting
pub mod Walk
