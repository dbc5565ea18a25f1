-- Flags, IP options and sets of types in their canonical text are read again.
pub mod Bits
pub mod Signs
pub mod Types
pub mod TypeSets
