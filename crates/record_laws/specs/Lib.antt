-- the packets that a record judged, and what they were counted under
pub mod JudgedPackets
pub mod Counters
-- what is printed of the records
pub mod VerdictLines
-- the editions that answers and dockets name
pub mod Listings
pub mod Dockets
-- the order of the records
pub mod CaptureOrder
-- one record and one report of a script and captures
pub mod SameCaptures
pub mod OneReplay
