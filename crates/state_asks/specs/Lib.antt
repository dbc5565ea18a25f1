-- what a publication tells the states
pub mod Facts
pub mod RuleLists
-- what an ask has of a packet
pub mod Flags
-- what the states are asked
pub mod Asked
