pub mod Sources
pub mod Denotes
pub mod Refused
pub mod Refusals
pub mod Errors
pub mod Turning
