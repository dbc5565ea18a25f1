-- the live states along the seconds of a journal
pub mod LiveCounts
-- the journal of lines, by the script behind it
pub mod Behind
-- a walk along a journal
pub mod Walks
