mod Noting
mod Whole
mod Kept
