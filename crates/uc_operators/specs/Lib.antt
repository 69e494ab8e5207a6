pub mod Words
pub mod Overflows
pub mod Bits
