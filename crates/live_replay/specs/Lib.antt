-- a lane and its records
pub mod Posted
-- a worker, from its task to its end
pub mod Work
-- who runs the lines behind `live`
pub mod Operating
-- all workers and the operator
pub mod Crew
