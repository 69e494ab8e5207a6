pub mod Listing
pub mod Symbols
pub mod Tables
pub mod Instances
pub mod InstancesSymbols
pub mod Fits
pub mod Kept
pub mod Sorted
