pub mod Bounds
pub mod LoneFaultsWalks
pub mod Places
pub mod Effects
pub mod Walks
pub mod SteppedOnceWalks
