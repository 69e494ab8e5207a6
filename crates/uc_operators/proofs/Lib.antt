pub mod Chains
pub mod Extensions
