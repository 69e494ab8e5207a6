pub mod Suiting
pub mod Fineness
pub mod Lowness
mod Pairs
mod Symbols
