-- Whose record each ask is of: its lane, and the record's number.
use Rattle.std.specs.Prelude.{ℕ, List, [], ◌∷◌}
use Rattle.report_reading.specs.Readings.{LineValue, OfRecord, OfPublication, OfAsk, OfLane, OfOther}
use Rattle.state_journal.specs.declared.entry.Entry.{Entry}
use Rattle.state_journal.specs.declared.entry.Entry.TheVariants.{Publish, Ask}

-- a lane and a record of it
pub record AskName : Type 0 where
  pub lane : ℕ
  pub at : ℕ

-- those of the asks of a journal, in its order
abbrev pub names_in : List Entry → List AskName
names_in [] = []
names_in (Publish number ∷ entries) = names_in entries
names_in (Ask lane op reply at ∷ entries) = record { lane = lane; at = at } ∷ names_in entries

-- that of an ask's line, before others
abbrev pub with_name : LineValue → List AskName → List AskName
with_name (OfRecord told) names = names
with_name (OfPublication number) names = names
with_name (OfAsk told) names = record { lane = told.lane; at = told.at } ∷ names
with_name (OfLane told) names = names
with_name OfOther names = names

-- those of the asks that lines tell, in their order
abbrev pub names_told : List LineValue → List AskName
names_told [] = []
names_told (value ∷ values) = with_name value (names_told values)
