-- what is told of a capture's records
pub mod Records
-- what stands in a line, and which line of a text is the first that doesn't fit
pub mod Fields
pub mod Lines
-- the lines of captures
pub mod Captures
-- the sections behind them, and a whole report
pub mod Sections
pub mod Reports
-- what a record came to
pub mod Outcomes
-- how many records came to another verdict
pub mod Verdicts
-- where the rules of a number in an edition stand
pub mod KnownPlaces
-- texts and the map that tells their numbers
pub mod TextNumbers
-- what they come to
pub mod Laws
