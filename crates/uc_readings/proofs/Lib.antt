pub mod Arriving
pub mod Picked
pub mod Extended
pub mod Found
pub mod Bound
