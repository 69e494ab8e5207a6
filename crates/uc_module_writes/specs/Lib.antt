pub mod Found
pub mod Outer
pub mod Bound
pub mod Places
pub mod Stepped
pub mod Premise
