-- words, slots, seats and what they mean
pub mod Layout
pub mod Meanings
pub mod Seats
-- what holds between any two steps
pub mod Rule
-- what each kind of step does, tells and answers
pub mod Moves
pub mod Plays
pub mod Answers
-- seats between two calls, and the table as it opens and closes
pub mod Rests
pub mod Ends
-- what is said of all steps and at every moment
pub mod Laws
pub mod Moments
