pub mod Code
pub mod Syntax
pub mod Plain
pub mod Language
pub mod Same
pub mod Written
