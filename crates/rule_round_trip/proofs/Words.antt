-- The canonical words of a rule are words of a line, and are read as these words.
pub mod Spaced
pub mod Columns
pub mod Solid
