pub mod Parts
pub mod Judging
