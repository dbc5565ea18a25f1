-- the first element that passes a test
pub mod FirstElements
