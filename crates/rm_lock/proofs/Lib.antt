-- tries that are made again, sections, and what a processor was told of
pub mod Tries
pub mod Told
-- a write: its beginning, the editions in the hand, the publication
pub mod Marks
pub mod Hands
pub mod Publications
-- the book, taken and given back
pub mod Givings
-- the tokens as a lock opens and as it closes
pub mod Splits
pub mod Joins
