pub mod Starts
pub mod Asked
pub mod Formulas
pub mod Judged
pub mod Executions
