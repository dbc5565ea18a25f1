pub mod Walks
pub mod EnoughHeaders
pub mod Spelled6
