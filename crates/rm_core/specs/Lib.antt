-- the state, its ten steps, and what holds in each state
pub mod CoreState
-- whole runs of steps
pub mod Runs
