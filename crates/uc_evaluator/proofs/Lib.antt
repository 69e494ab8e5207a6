pub mod Told
pub mod Bodies
pub mod Levels
pub mod Forms
pub mod Turns
pub mod Sizes
pub mod Shaped
pub mod Named
