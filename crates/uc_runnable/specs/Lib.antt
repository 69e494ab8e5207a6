pub mod Commands
pub mod Plain
pub mod Unfit
pub mod Runnable
pub mod Only
pub mod Outside
pub mod Parts
