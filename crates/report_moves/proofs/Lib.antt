-- how often something is in a list with one element more
pub mod SpanSteps
-- in a list that is mapped
pub mod SpanLaws
-- the moves of captures
mod Rows
-- that none is told twice
mod Once
-- that they stand in order
mod InOrder
