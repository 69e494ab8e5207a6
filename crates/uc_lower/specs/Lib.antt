pub mod Fields
pub mod Ranges
pub mod Made
pub mod Steps
pub mod Symbols
pub mod Lowering
pub mod Walk
pub mod Bits
