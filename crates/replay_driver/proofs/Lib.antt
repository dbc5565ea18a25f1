-- what is ready is reported
pub mod ReadyReports
-- a load's number, and its script's edition 1
pub mod LoadWords
pub mod AcceptedLoad
-- what a replay answers
pub mod EditionReplay
pub mod Statuses
-- what a run promises
pub mod Promised
pub mod Complete
pub mod SameAnswer
