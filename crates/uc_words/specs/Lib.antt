pub mod Fixed
pub mod Known
pub mod Words
pub mod Mentions
pub mod Laws
pub mod Below
pub mod Law
