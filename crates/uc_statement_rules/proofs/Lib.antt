pub mod Noted
mod Parts
mod Modifying
pub mod Declaring
mod Forms
mod Blocks
mod Joined
