pub mod Seen
pub mod Procedures
pub mod Judging
