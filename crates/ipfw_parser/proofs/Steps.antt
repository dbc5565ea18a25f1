-- What the loops of the code keep from step to step.
-- tokens of a line, elements of a word
pub mod Spans
pub mod Cuts
-- numbers and addresses
pub mod Digits
pub mod Hex
pub mod Gaps
pub mod Sides
-- lists and options
pub mod Lists
pub mod Masks
pub mod Options
