-- Flows, options and rules in their canonical words are read again.
pub mod Flows
pub mod Options
pub mod Bodies
pub mod Drafts
