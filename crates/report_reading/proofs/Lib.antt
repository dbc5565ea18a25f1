-- the lines of a text
mod LineEnds
-- words, and one step after another
pub mod Words
mod WordSteps
-- numbers
pub mod Digits
mod DigitSteps
pub mod Numbers
pub mod RuleNumbers
-- the lines of records
mod NameSteps
mod RecordsAgain
mod RecordsTold
-- the lines of lanes and of publications
mod LaneLaws
-- names and flows
mod NameLaws
pub mod FlowsAgain
mod FlowsTold
-- the lines of asks
mod AsksAgain
mod AsksTold
-- each line, whatever its kind
pub mod ReadingsTold
