-- what is evaluated, and what an evaluation comes to
pub mod Question
pub mod Evaluated
pub mod Evaluation
-- the way through the rules: what a rule is to the packet, and where it leads
pub mod Encounter
pub mod Trace
pub mod Walk
-- how far a call has gone
pub mod Callers
pub mod Standing
pub mod Place
pub mod Steps
-- laws of an evaluation
pub mod Laws
-- what is entered for the records of a lane
pub mod Dockets
