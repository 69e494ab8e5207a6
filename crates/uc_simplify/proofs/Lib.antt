pub mod Opened
pub mod Forms
pub mod Features
pub mod Standing
pub mod Rebuilding
pub mod Compared
pub mod Gathered
pub mod Sides
