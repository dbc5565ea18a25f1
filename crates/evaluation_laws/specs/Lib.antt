-- an evaluation sentence by sentence: what a run comes to, and what it does
pub mod Story
pub mod Runs
-- laws of evaluations
pub mod Laws
-- the plain evaluator's values, and what its functions promise
pub mod Views
pub mod Running
