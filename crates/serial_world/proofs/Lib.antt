-- the last edition
pub mod LastEdition
-- worlds and lanes that go on
pub mod WorldSteps
pub mod BookAsks
pub mod LaneSteps
pub mod LanesOf
pub mod Admitted
-- lanes that stand aside while the world goes on
pub mod Keeping
