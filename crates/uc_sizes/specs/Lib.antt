pub mod Counting
pub mod Pieces
pub mod Spending
pub mod Levels
pub mod Expanding
