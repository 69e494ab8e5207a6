pub mod Equality
pub mod Decisions
pub mod Typing
pub mod Differences
pub mod Meaning
pub mod Met
