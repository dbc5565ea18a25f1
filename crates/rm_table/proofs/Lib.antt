-- functions changed at one place, words, slots, and what other seats keep
pub mod Base
pub mod Keeping
pub mod Slots
-- the steps of a processor
pub mod Own
pub mod Sections
-- the steps on the two locks, and those of the operator
pub mod Locks
pub mod Writer
pub mod Publishing
pub mod Books
-- seats split off and joined, and the ends of a table
pub mod Seats
pub mod Begun
pub mod AtOpening
pub mod AtClosing
-- what each step asks of the table, in the words of `atomic_table`
pub mod Calls
pub mod LockCalls
-- what callers of the table know of its seats
pub mod Resting
pub mod Writes
-- what holds at every moment
pub mod Moments
