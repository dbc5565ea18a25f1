-- the captures that are replayed
pub mod Tracks
-- what each event of a run leaves
pub mod Events
-- a whole replay
pub mod Replay
-- the program beside them
pub mod ReplayWorld
pub mod Running
