-- addresses and prefixes
pub mod Networks
pub mod Networks6
-- texts that are written, and bytes that are taken
pub mod Texts
pub mod Parts
-- what std doesn't have of tests and lists
pub mod Logic
pub mod Lists
