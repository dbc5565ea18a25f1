-- the lines of slots
pub mod SlotTexts
