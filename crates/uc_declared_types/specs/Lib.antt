pub mod AliasLaw
pub mod WayLaws
pub mod CycleLaws
pub mod Names
pub mod Aliases
pub mod Counts
