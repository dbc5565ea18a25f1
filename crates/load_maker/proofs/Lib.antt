pub mod Reading
pub mod Pieces
