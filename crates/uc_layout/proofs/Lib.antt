pub mod Walks
pub mod Tables
pub mod Places
pub mod Listed
pub mod Fits
pub mod Touching
pub mod Sorting
pub mod Keeping
