pub mod SameFaults
pub mod Tame
pub mod Walked
pub mod Paired
pub mod Behind
pub mod Chosen
pub mod Passing
pub mod Through
