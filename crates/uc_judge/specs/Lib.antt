pub mod Prints
pub mod Reports
pub mod Lines
pub mod Judged
