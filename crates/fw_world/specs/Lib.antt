-- what a run is of, and what it leaves
pub mod Inputs
pub mod RecordValue
-- when a record is legal, part by part
pub mod Legal
pub mod Editions
pub mod Publications
pub mod Entries
pub mod Tallies
pub mod Asks
pub mod Sections
pub mod Visits
pub mod Caches
pub mod Standing
pub mod Lanes
pub mod RecordedHits
-- what contracts see of a world, its lanes and its desk
pub mod Lane
pub mod LaneKept
pub mod World
pub mod Columns
-- what is done in whichever world
pub mod AskRuns
pub mod LaneSteps
pub mod Skips
pub mod CommitFaults
pub mod ByPlace
pub mod Closing
