-- words of captures, one after another
pub mod CaptureLists
-- what one word is to the library that reads the words
pub mod Sorts
-- rows of arguments that were found
pub mod Rows
-- what the library makes of one word more, and of the words behind `--`
pub mod Walks
-- what the definition makes of one word more
pub mod Giving
-- what the library makes of all the words
pub mod Ends
