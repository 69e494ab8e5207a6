pub mod Fits
pub mod Law
pub mod FlatRefutationsLaws
pub mod FlatVerdictsLaws
