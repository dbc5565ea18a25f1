-- the lines of a text
pub mod Lines
-- what the kinds of lines are made of
pub mod Parts
-- the lines of records
pub mod RecordLines
-- the lines of lanes and of publications
pub mod LaneLines
-- the lines of asks, and what they are made of
pub mod FlowTexts
pub mod AskParts
pub mod AskLines
-- each line, whatever its kind
pub mod LightLines
pub mod Readings
