-- the configuration, its parts and what holds of it
pub mod Chain
pub mod Configuration
pub mod First
pub mod LastRule
pub mod Names
pub mod Parts
