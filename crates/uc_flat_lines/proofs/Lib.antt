pub mod Alike
pub mod Outcomes
pub mod Judged
pub mod Below
pub mod Supplied
pub mod Alone
pub mod Gathering
pub mod Together
