-- words, readings of words, and their faults
pub mod Reading
pub mod Parts
pub mod Sentences
-- what one word is read as
pub mod Numbers
pub mod Names
pub mod Lists
pub mod Addresses
pub mod Addresses6
pub mod Ports
-- options and rules
pub mod Options
pub mod Rules
-- what is promised of each rule that is read
pub mod Forms
pub mod Places
pub mod Laws
-- the code's values as these definitions have them
pub mod Views
pub mod SideViews
pub mod SignViews
pub mod PlacedViews
