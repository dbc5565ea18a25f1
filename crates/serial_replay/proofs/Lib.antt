-- the tracks of all captures
pub mod TrackLists
pub mod Ended
-- a line or a record that was replayed
pub mod Lines
pub mod Records
pub mod TakenRecord
-- a whole replay, and what each of its steps keeps
pub mod Keeping
pub mod Whole
