pub mod Parts
pub mod Writes
pub mod Levels
pub mod Laws
pub mod Targets
pub mod Runs
pub mod Choices
pub mod Turns
