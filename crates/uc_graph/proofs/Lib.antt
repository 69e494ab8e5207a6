pub mod Places
mod NeededFirstHas
mod Counts
mod NeededFirstSteps
mod Bools
mod Members
mod Takings
mod Rounds
pub mod ReachedWays
mod Tests
pub mod GraphCyclesWays
mod Flags
mod Reversing
mod GraphCyclesSteps
pub mod Arranged
mod FirstFreeHas
mod Keys
mod Open
mod Turns
