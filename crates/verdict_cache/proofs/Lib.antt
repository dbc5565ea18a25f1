pub mod HoldsByKey
pub mod FlowByKey
pub mod Missed
pub mod SameKey
