pub mod FirstEntries
pub mod Forms
mod Turns
mod PlaceNumbers
pub mod OwnDeclared
pub mod OpaquePlaces
pub mod InOrder
