-- Each fault of a rule stands where one of its words begins, or at the end of its line.
pub mod Words
pub mod Rules
