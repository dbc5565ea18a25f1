-- lists, places in them and trees over them
pub mod Lists
pub mod Places
pub mod Listed
-- rules in number order
pub mod Chains
pub mod Behind
pub mod Greatest
pub mod Chosen
-- identities and counter numbers
pub mod Own
pub mod Renumbered
-- flow names
pub mod FlowNames
-- tables and their uses
pub mod Keys
pub mod UsesInTurn
-- what an `add` answers, step by step
pub mod Added
-- what a command keeps
pub mod Kept
pub mod Untouched
