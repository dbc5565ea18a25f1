pub mod Key
pub mod Cache
pub mod EqualKeys
