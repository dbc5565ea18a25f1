-- the names in a rule
pub mod RuleNames
-- which records have a report whose lines are in their ranges
pub mod Printable
-- what a script's commands are, and what keeps records printable
pub mod Formed
-- what an audit says of the report of a legal record
pub mod Completeness
-- legal records of captures of bytes
pub mod Captures
