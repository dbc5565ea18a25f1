-- lists and numbers
mod Lists
-- numbers at a line's front
mod RuleNumbers
mod Numbers
-- sections that tell nothing
mod ToldNothing
mod HeadLines
mod RuleLines
mod RuleWords
mod Configs
mod TableLines
mod AnswerLines
mod LastLines
-- a whole report
mod CaptureLines
mod ReportLines
-- asks under their editions
mod AskedNames
mod NameFronts
mod KnownAsks
mod HeldStates
mod Judgements
mod Askable
-- a legal record
mod Lanes
mod Legals
mod Opening
-- what names a record or a lane
mod Naming
mod OwnLines
-- records, and the lines behind them
mod Records
mod Nothing
-- a report tells one record, which no audit finds wrong
mod OneRecord
pub mod Faultless
-- and which has the report again
mod SamePrint
pub mod Rebuilding
-- a script's commands, and the configurations that they make
pub mod RuleForms
mod TableForms
pub mod KeptForms
pub mod ScriptForms
-- captures of bytes, and their records
mod Frames
mod Captured
pub mod PrintableRecords
