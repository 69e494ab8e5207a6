pub mod Among
pub mod Declared
pub mod Growing
pub mod Stable
pub mod Rounds
pub mod Calls
pub mod Bodies
pub mod Followed
pub mod Along
pub mod Following
pub mod WayLawsAliases
pub mod Instances
mod Sides
mod Forms
mod Entries
mod Fixed
mod Turns
mod Listing
mod Arms
mod Labelled
mod Flat
