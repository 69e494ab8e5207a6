pub mod Here
mod Chains
mod Compared
mod InBrackets
mod Levels
