-- which commands are carried out
pub mod Served
-- what is found, and its status and text
pub mod Found
pub mod EditionReplay
pub mod FilesReplay
pub mod RunResult
-- what a run leaves, and what it promises
pub mod Run
pub mod Promises
