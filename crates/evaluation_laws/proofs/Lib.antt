-- what a trace comes to, and the runs of the manual's sentences
pub mod Results
pub mod Sound
pub mod Total
-- laws
pub mod Answered
pub mod Acting
-- where a run goes on
pub mod Stepping
pub mod Lifts
