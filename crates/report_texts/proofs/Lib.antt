-- how a capture ended
pub mod CaptureEnds
-- lines of a text, and words without an end of a line
pub mod SilentWords
pub mod LineCounts
pub mod Sections
-- the parts of an ask's line
pub mod AskParts
