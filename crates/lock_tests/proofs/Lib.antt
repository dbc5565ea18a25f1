-- what callers of a lock know of their tokens, and of the book that they took
pub mod Callers
mod Entered
