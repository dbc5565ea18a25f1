-- the words of a line
pub mod Words
-- what a fault prints
pub mod Sentences
-- that a scan finds them, and nothing else
pub mod Laws
