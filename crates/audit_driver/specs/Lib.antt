-- which words ask for an audit
pub mod AuditNames
-- what an audit comes to
pub mod Concluding
pub mod Found
-- what is printed
pub mod AuditTexts
-- what it leaves, and what it promises
pub mod Run
pub mod Promises
-- an audit of what a replay printed
pub mod Printed
