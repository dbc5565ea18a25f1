-- tables
pub mod Faults
pub mod Networks
pub mod Places
pub mod Values
-- pieces of address tables
pub mod Cuts
pub mod Decided
pub mod Deciders
pub mod Kept
pub mod Puts
pub mod Ranges
pub mod Takes
