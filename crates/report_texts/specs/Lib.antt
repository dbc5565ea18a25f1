-- what is reported
pub mod Recorded
-- how a capture ended
pub mod CaptureEnds
-- the report by its sections
pub mod Report
pub mod DocketText
pub mod AnswerText
pub mod RulesText
pub mod JournalText
-- the summary
pub mod Summary
-- what an ask's line has before the name of its flow, and what behind it
pub mod AskText
-- how many lines a text has
pub mod Lines
