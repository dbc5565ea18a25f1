-- one end of two runs
pub mod TwoRuns
