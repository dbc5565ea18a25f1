-- two texts beside one another
pub mod Comparison
pub mod Meeting
-- evaluations beside what is told of them
pub mod ToldEvaluations
-- asks of the journal under an edition
pub mod ToldAsks
pub mod Replaying
-- the form of a report
pub mod Forms
-- what a report tells, and its journal
pub mod JournalTold
pub mod ToldReport
pub mod AskNames
pub mod Telling
-- records and other lines beside it
pub mod Judging
pub mod OtherLines
-- the audit as a whole
pub mod AuditFaults
pub mod AuditAnswers
pub mod Opening
pub mod Audit
-- what is found by the number of its record
pub mod Numbering
pub mod Indexes
-- asks of the journal, by their places
pub mod AskStands
-- what was read, as a value
pub mod ToldValues
pub mod Entering
pub mod JudgingValues
-- which journals are told again by their printed lines
pub mod PrintedJournals
-- lines behind the records, as tests
pub mod LeftOver
pub mod NothingLeft
-- what makes a record legal
pub mod Composition
-- what is rebuilt
pub mod Closing
