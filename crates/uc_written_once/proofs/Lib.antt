mod Bounds
mod Noted
mod LoopForms
mod TargetForms
mod Again
pub mod KnownPlaces
pub mod Overlaps
pub mod WrittenOnceTurns
pub mod Forms
pub mod Single
mod Found
mod Walked
mod SteppedOnceForms
mod SteppedOnceTurns
mod SteppedOnceFound
mod Adding
