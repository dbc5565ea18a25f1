-- text in pieces before a sink
pub mod Pieces
