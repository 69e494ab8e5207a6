pub mod Lent
pub mod NameSets
pub mod Blocks
pub mod Fits
pub mod Numbers
