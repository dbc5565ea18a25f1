-- what is kept for the packets of one key
pub mod Verdicts
-- hits
pub mod Visits
-- a cache and a lane's cache beside them
pub mod LaneCache
-- laws
pub mod Laws
