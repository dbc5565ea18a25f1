-- one processor changed in the state
pub mod Changes
-- each step leads from a state that meets the promise to one that does
pub mod Fitting
pub mod Steps
pub mod Keeping
-- what a processor knows in a run
pub mod Numbers
pub mod OneRun
