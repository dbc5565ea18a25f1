-- ranges of a list, and bytes that come behind others
pub mod Ranges
pub mod Growing
-- what stands at a record's place
pub mod Steps
-- the front of a string of bytes: there is one, and it stays
pub mod Fronts
pub mod OneFront
-- going on from record to record
pub mod Advancing
pub mod Runs
-- what was read of a source that tells its bytes
pub mod Exact
