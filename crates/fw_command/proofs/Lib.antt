-- lines, words and results
pub mod Pieces
pub mod LineEnds
pub mod WordLists
pub mod OnResults
-- what the loops of the code keep from step to step
pub mod SetSteps
pub mod ScriptSteps
-- each number is in its range
pub mod InRange
pub mod ScriptInRange
-- commands and faults stand on their lines
pub mod Standing
pub mod CommandPlaces
pub mod FaultPlaces
