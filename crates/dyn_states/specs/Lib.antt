-- the values of a state
pub mod Flows
pub mod Lifetimes
-- the state object: what an ask and a publication do
pub mod StateObject
-- the parts of the hashed body, each against its slots
pub mod Slots
pub mod Lines
pub mod ExpiryQueue
pub mod LimitCounts
pub mod Tallies
pub mod StateTable
