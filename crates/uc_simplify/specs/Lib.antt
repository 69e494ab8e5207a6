pub mod Forms
pub mod Features
pub mod Simplified
pub mod Records
pub mod Integers
pub mod Walking
