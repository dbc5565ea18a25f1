-- counters and judged packets
pub mod AddingUp
-- editions
pub mod RisingEditions
pub mod ListedEditions
-- lines of the report
pub mod PrintedLines
-- turns of captures
pub mod KeptOrder
-- one record and one report of a script and captures
pub mod OneEvaluation
pub mod LawfulRun
pub mod OneRun
pub mod OneReport
pub mod SameEnds
pub mod ReadCaptures
pub mod OneReplay
