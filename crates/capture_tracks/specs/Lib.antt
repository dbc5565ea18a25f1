-- what is read of a capture
pub mod Reading
pub mod Tracks
pub mod Taken
-- what becomes of the commands, and who runs them
pub mod Commands
pub mod Operator
-- a whole replay, and what is reported of it
pub mod Replay
pub mod Reported
-- the program beside them
pub mod Listings
