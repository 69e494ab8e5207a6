pub mod Gained
pub mod Picked
pub mod Written
pub mod Listed
pub mod Imports
pub mod Equations
pub mod Brought
