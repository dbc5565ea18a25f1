-- an escaped text
mod EscapeLaws
-- bins
mod BinLaws
-- shares
pub mod ShareLaws
-- rows of causes
mod WordLaws
