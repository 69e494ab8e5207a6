mod Sames
mod Orders
pub mod Lists
pub mod Chains
pub mod Swaps
