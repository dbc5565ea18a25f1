-- what contracts see of tokens
pub mod Tokens
-- what each call does, and the calls that make up a write
pub mod Calls
pub mod Writes
-- the lock as it opens and as it closes
pub mod Ends
