-- what a replay promises
pub mod RunPromises
-- a replay prints a report of which an audit says yes
pub mod RunReports
