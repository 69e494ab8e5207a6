pub mod Cells
pub mod Table
pub mod Firsts
pub mod Parts
pub mod Made
