-- what a body asks of a packet: its addresses, its ports, its interface
pub mod Packet
pub mod Ports
pub mod Interfaces
-- what lookup tables answer
pub mod Tables
-- the options, and the whole body
pub mod Tests
pub mod Holds
