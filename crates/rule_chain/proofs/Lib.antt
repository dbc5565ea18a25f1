-- lists, and places in them
pub mod Lists
pub mod InPlaces
pub mod Places
-- rules in number order
pub mod Chains
