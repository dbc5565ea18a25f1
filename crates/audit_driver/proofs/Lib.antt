-- what a comparer compares
pub mod SameText
-- what the audit concludes
pub mod Conclusions
pub mod Found
-- what it promises
pub mod Promised
-- the words of an audit
pub mod CaptureCounts
-- what a script gives, and what is read of captures
pub mod EditionForms
pub mod SameReadings
-- that it says yes of what a replay printed
pub mod Accepted
