pub mod Reading
pub mod Tails
pub mod Chains
pub mod Gives
pub mod Heads
pub mod Levels
pub mod Parts
pub mod Signs
