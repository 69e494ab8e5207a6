pub mod Suiting
pub mod OperandTypes
mod Symbols
