-- what the tests go through
pub mod OneLane
pub mod TwoLanes
