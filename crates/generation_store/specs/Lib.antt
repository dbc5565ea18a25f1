-- what contracts see of an edition, and which facts and names it has
pub mod Published
-- where its rules go on
pub mod Jumps
-- where its rules stand, and what it keeps
pub mod Placing
pub mod Indexed
-- what contracts see of a store
pub mod Held
