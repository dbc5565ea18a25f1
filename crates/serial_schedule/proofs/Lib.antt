pub mod Passing
pub mod Turns
pub mod Events
pub mod Least
