pub mod Contents
pub mod Labels
pub mod Mentions
pub mod Numbering
pub mod WrittenTypes
