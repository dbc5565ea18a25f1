-- what contracts see of them
pub mod Memory
