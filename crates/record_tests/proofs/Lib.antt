-- what the tests go through
mod OneLane
mod TwoLanes
