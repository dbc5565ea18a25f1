-- the entries of records by the kinds that differ
mod RecordPlaces
mod KindHints
-- the lines of records and of captures
mod CaptureLines
mod CaptureEnds
mod BehindCaptures
-- the sections behind them
mod LineSteps
mod AnswerSteps
mod EnoughAnswers
-- the texts of outcomes, and their numbers
mod OutcomeParts
mod OutcomeNumbers
-- elements of two lists by their places
pub mod PlacePairs
-- where the rules of a number in an edition stand
mod KnownPlaces
-- texts and the map that tells their numbers
mod TextNumbers
