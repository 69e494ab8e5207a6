pub mod Bounds
pub mod Found
pub mod Uses
pub mod Reading
pub mod Numbers
