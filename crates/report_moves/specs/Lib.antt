-- how often something is in a list, where first and where last
pub mod Spans
-- what moved
pub mod Moves
