pub mod Declared
pub mod DeclaredConstants
pub mod Entered
pub mod Entries
pub mod ByKinds
pub mod Lengths
pub mod Answered
