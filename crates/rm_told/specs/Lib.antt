-- a reading with a depth, as contracts see it
pub mod DeepState
-- what each call on it does
pub mod Depths
-- what holds over many calls
pub mod Laws
