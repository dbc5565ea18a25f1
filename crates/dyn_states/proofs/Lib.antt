-- lists, pairs and answers that may be none
pub mod Mapped
pub mod FirstChanged
pub mod Pairs
pub mod Options
-- slots and their places
pub mod SlotLaws
pub mod PlaceLaws
-- lines of flows, and where they lead
pub mod LineLaws
pub mod LeadsLaws
pub mod ApartLaws
-- the counts of limits
pub mod CountLaws
-- the table, part by part
pub mod TableLaws
