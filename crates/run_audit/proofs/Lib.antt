-- counts of bytes and of lines
mod Counts
-- differences, byte by byte and line by line
mod ByLines
mod Meetings
pub mod SameTexts
-- evaluations beside what is told of them
mod ToldSteps
-- asks of the journal under an edition
mod Marks
mod KnownRules
-- a report's lines, and the journal that they tell
mod JournalSteps
mod ReadLines
mod FormedLines
-- the editions that a script makes
pub mod Publishing
mod Opened
mod ToldReports
pub mod AskPlaces
pub mod ToldTexts
pub mod SilentParts
pub mod JournalLines
pub mod RecordTexts
pub mod LightTexts
pub mod ReplayAgain
pub mod PrintedJournals
mod Replicated
-- what is found by the number of its record
mod NumberedLists
mod Picked
mod Steps
-- asks of a record
mod OwnAsks
-- records beside their lines
pub mod ToldEntries
mod EnteredMore
mod DocketPlaces
mod AuditSteps
mod JudgingSteps
-- lines behind the records
mod LeftOvers
mod NothingLefts
-- a record that is legal
pub mod LaneAsks
mod Composed
mod BehindSteps
-- what is rebuilt
mod AsksJudged
mod LaneSections
pub mod PublishedFacts
mod Rebuilding
