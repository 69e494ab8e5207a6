pub mod Added
pub mod Labels
pub mod Mentions
pub mod Numbering
