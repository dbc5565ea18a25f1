-- the format: what a whole string of bytes says
pub mod Reading
pub mod Counting
-- a capture that is open, and the bytes that it holds
pub mod Capture
pub mod Window
-- what its calls answer
pub mod Opening
pub mod Finding
-- its faults, and their words
pub mod Causes
pub mod Words
