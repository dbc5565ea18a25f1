pub mod OptionWalk
pub mod Spelled
