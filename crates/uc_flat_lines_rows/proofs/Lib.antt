pub mod Sound
pub mod OwnTypes
