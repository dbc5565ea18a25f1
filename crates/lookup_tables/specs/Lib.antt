-- tables
pub mod AddrTable
pub mod Entries
pub mod NumberTable
pub mod Sentences
pub mod Tables
-- pieces of address tables
pub mod Change
pub mod Piece
pub mod Pieces
