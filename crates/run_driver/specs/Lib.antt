-- what a replay promises
pub mod RunPromises
-- an audit of what a replay printed
pub mod RunReports
