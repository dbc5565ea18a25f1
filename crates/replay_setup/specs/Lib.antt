-- what a library, its sources and a sink mean
pub mod Outside
-- a source over bytes
pub mod InMemory
-- what is opened and read
pub mod Openings
pub mod CaptureOpenings
pub mod NamedSource
pub mod NamesRead
pub mod UnreadName
-- what a script gives
pub mod FirstEdition
pub mod ScriptTexts
-- what the names of a replay come to
pub mod Ready
-- captures whose sources failed
pub mod FailedReads
-- the status behind a text, and what a run leaves
pub mod WrittenStatus
pub mod Outcomes
