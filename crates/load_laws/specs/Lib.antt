-- the script that a load makes, as it is read
pub mod MadeScript
-- commands that are accepted
pub mod Acceptance
-- what holds of each load
pub mod Laws
