pub mod Low
pub mod Records
