pub mod Features
pub mod Steps
pub mod Junctions
pub mod Sums
pub mod Combining
