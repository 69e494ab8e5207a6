pub mod Slices
pub mod GuardedLaws
pub mod Arranged
pub mod Laws
pub mod Uses
pub mod Writers
