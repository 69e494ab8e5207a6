pub mod Traces
pub mod Places
pub mod Laws
pub mod Lines
