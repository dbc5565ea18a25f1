-- Addresses, prefixes and ports in their canonical text are read again.
pub mod Four
pub mod Six
pub mod Items
pub mod Ports
