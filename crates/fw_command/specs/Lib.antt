-- the lines of a script, and their ends
pub mod Lines
pub mod Ends
-- the commands by their words
pub mod SetCommands
pub mod TableCommands
pub mod SettingCommands
pub mod Commands
-- what a line says, and the script of all lines
pub mod Statements
pub mod Scripts
pub mod Steps
pub mod Drafts
pub mod DraftViews
-- what is promised of each script
pub mod WellFormed
pub mod Laws
-- what is printed of a fault
pub mod FaultText
