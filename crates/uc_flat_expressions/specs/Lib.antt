pub mod Answers
pub mod Types
pub mod Names
pub mod Fields
pub mod Building
pub mod Expressions
pub mod Pairs
