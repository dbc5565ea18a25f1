-- what the loop over a line keeps from byte to byte
pub mod Steps
-- the words are the longest runs of bytes that aren't blank
pub mod Longest
-- and there is one list of them
pub mod Unique
