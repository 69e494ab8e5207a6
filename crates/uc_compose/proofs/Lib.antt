pub mod Moved
pub mod Listing
pub mod Copied
