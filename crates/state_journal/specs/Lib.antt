-- what stands in a journal
pub mod Entries
-- what a book shows, and when a journal is lawful
pub mod Journal
-- the lists by which a shared book is seen
pub mod Items
