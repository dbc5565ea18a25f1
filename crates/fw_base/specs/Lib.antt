-- what comes from outside
pub mod Faults
pub mod Pairs
pub mod Texts
-- one step after another
pub mod Chain
-- addresses, prefixes, ports, names
pub mod Addr
pub mod Prefix
pub mod Prefix6
pub mod PortRange
pub mod Name
