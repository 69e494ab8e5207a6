pub mod Places
pub mod Running
pub mod Finding
pub mod Single
