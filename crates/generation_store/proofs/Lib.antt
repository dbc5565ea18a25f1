pub mod Finding
pub mod Ordered
pub mod Places
pub mod Whole
-- one value of facts and of editions
pub mod OneFacts
pub mod OneEdition
