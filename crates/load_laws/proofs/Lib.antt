-- a load's script
pub mod MadeLines
pub mod WaitLine
pub mod MadeScripts
pub mod Acceptance
-- a load's capture
pub mod MadeCaptures
