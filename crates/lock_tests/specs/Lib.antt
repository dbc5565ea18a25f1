pub mod Opened
pub mod MarkedEdition
