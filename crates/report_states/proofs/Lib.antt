-- the state object along a journal
mod Clocks
mod Passing
-- columns one behind the other
mod ColumnLaws
