-- what both runs read, and what they print of it
pub mod SameNames
pub mod SameTexts
-- the law, and what the contract of `run` says by it
pub mod Determined
pub mod TwoRuns
