-- the words of an address, and the numbers that an interval has
pub mod Words
pub mod Within
-- which rules ask for states, and of which lists verdicts can be kept
pub mod Stateful
pub mod Cacheable
-- a packet's key, a gate, and what a gate promises of its rule
pub mod Keys
pub mod Telling
pub mod Told
pub mod Gates
-- one gate over several
pub mod Hulls
-- what its parts have to admit
pub mod Covers
