-- the text of a page
pub mod Escapes
pub mod Pieces
-- a strip of verdicts
pub mod Bins
-- shares of a whole
pub mod Shares
-- plain words for causes
pub mod PlainWords
