-- what becomes of the states' rules
pub mod Ruled
-- entries that grow by one
pub mod EntryLists
-- journals that grow by an entry
pub mod Growing
-- the lists by which a shared book is seen
pub mod ItemLists
