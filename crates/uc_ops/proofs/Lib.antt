pub mod Lists
pub mod Typed
pub mod Rebuilt
pub mod Differing
pub mod Fitting
pub mod Soundness
pub mod Parts
