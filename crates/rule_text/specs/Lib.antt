-- the text of a rule, and of an IPv6 address in it
pub mod Canonical
pub mod Address6Text
pub mod ZeroRuns
-- the pieces that a text is written in
pub mod Pieces
