pub mod Lines
pub mod Deciding
pub mod Joint
