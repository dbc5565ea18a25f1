-- what the others stand on
pub mod Lists
-- one word: a number, a mask, an address
pub mod Numbers
pub mod Masks
pub mod Addresses
-- words of a line, and rules
pub mod Words
pub mod Rules
-- a rule on a line of a script
pub mod AddLines
