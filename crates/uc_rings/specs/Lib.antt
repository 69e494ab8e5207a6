pub mod Lists
pub mod Links
pub mod Pairs
pub mod Watched
