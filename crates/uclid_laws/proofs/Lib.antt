pub mod Apart
pub mod Passed
pub mod Distinct
pub mod Designs
pub mod Refusals
pub mod Runs
