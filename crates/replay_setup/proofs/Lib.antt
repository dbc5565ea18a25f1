-- openings one after another
pub mod Openings
pub mod MadeReady
-- a script from its bytes to edition 1
pub mod ScriptReading
pub mod ScriptLines
-- what was read where nothing failed, and what openings leave of the told list
pub mod QuietReads
pub mod Told
-- captures whose sources failed
pub mod FailedReads
-- the editions of a record
pub mod SomeEditions
-- facts about options and results
pub mod Logic
