-- rules
pub mod Bits
pub mod FlowName
pub mod Names
pub mod TypeSet
-- the ranges of numbers
pub mod Settings
pub mod Values
pub mod WellFormed
