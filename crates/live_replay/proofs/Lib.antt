-- a lane at its post, and a worker
pub mod Posted
pub mod Working
-- the lines behind `live`
pub mod Lines
-- all workers and the operator
pub mod Gathered
pub mod Whole
