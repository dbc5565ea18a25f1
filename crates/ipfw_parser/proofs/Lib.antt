-- what the loops of the code keep from step to step
pub mod Steps
-- what is read is in its form
pub mod Forms
-- options are read one after another
pub mod Turns
-- where the fault of a rule stands
pub mod Places
