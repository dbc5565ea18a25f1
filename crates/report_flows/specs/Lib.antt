-- who speaks to whom
pub mod Flows
-- how often each flow is met among the records of a move
pub mod Counting
-- the flows of captures
pub mod Captures
