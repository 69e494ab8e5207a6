pub mod Initial
pub mod Inits
pub mod Questions
pub mod Truths
pub mod ExecutionsAsking
pub mod Declaring
pub mod Numbered
