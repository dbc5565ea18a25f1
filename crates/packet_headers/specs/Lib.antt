-- numbers in the bytes of a packet
pub mod Octets
-- what a packet's headers say
pub mod Fields
pub mod Options
pub mod Transport
pub mod Flows
-- reading a frame, and the packet that it gives
pub mod Reading
pub mod Packet
-- the same the other way round: a packet spelled as bytes
pub mod Spelling
