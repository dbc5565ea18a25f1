-- the order of the records of several captures
pub mod Order
-- the commands between them
pub mod Agenda
pub mod Steps
-- both together
pub mod Schedule
