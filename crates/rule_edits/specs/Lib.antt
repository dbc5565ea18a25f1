-- commands and what they answer
pub mod Answers
pub mod Apply
pub mod Changing
pub mod Touching
pub mod Words
-- an `add`, step by step
pub mod Adding
pub mod NewNames
pub mod Uses
-- lists of rules, moves of sets, tables
pub mod Rules
pub mod Moves
pub mod Lookups
-- what lists keep beside them
pub mod Addresses
pub mod Behind
pub mod Marks
