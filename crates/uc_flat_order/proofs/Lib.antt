pub mod Lists
pub mod Leaves
pub mod Asked
pub mod Forms
pub mod Kept
pub mod Pairs
pub mod Coded
pub mod PlainCode
pub mod Orders
mod Used
mod Along
mod Finding
