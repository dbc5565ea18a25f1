-- what holds of every serial world, and how one is opened
pub mod WorldKept
pub mod LastEdition
-- what its calls do
pub mod SerialLane
pub mod Steps
pub mod SerialEntries
