pub mod Turned
pub mod Takes
pub mod Choice
pub mod Branches
mod Types
mod Texts
