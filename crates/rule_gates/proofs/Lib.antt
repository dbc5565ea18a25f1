-- words of numbers whose first bits are equal
pub mod Blocks
-- keys that a gate admits
pub mod Admitted
-- lists of gates
pub mod Gated
-- gates over several, and searches by them
pub mod Joined
pub mod Hulled
