pub mod Growing
pub mod Cost
pub mod Stands
pub mod Unrolled
pub mod Designs
pub mod Known
pub mod Arms
