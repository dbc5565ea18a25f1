-- What is read is in its form: numbers in their ranges, lists with some element, names of allowed bytes.
pub mod Following
-- what one word is read as
pub mod Numbers
pub mod Items
pub mod Items6
pub mod Masks
pub mod Types
-- options, rules, and the drafts of rules
pub mod Rules
pub mod Drafts
