pub mod Senses
pub mod Tables
pub mod ModuleNamesNumbers
pub mod Entries
pub mod OwnTypes
pub mod Opaques
pub mod TypeHomesNumbers
pub mod Homes
