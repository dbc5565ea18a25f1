-- what a packet's headers say
pub mod Fields6
pub mod Chain
pub mod Layer
pub mod Transport6
-- reading a frame, IPv4 or IPv6, and what both have in common
pub mod Reading
pub mod Either
-- the same the other way round: a packet spelled as bytes
pub mod Spelling6
