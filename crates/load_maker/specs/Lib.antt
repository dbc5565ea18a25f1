-- the packets, and the records that they stand in
pub mod Packets
-- the script and the capture
pub mod Load
