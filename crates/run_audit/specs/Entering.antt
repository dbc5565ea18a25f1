-- One record more: what is entered and counted for it, or the line at which it fails.
use Rattle.std.specs.Prelude.{◌≡◌, ℕ, ◌+◌, ◌-◌, Some, List, [], ◌∷◌, ◌++◌, length, slice_get, slice_set}
use Rattle.counter_book.specs.declared.tally.Count.{Count}
use Rattle.eval_engine.specs.declared.docket_entry.DocketEntry.{DocketEntry}
use Rattle.fw_world.specs.Inputs.{Input}
use Rattle.fw_world.specs.Tallies.{Hit, IsTallyOf, record_hits}
use Rattle.run_audit.specs.Judging.{ToldValue, IsToldSo, asks_told, line_naming, number_or_last}

-- what was entered and counted for each lane
pub record JudgingValue : Type 0 where
  pub dockets : List (List DocketEntry)
  pub tallies : List (List Count)

-- The next record of a lane is as the report tells it: its entry stands behind those of the lane, and its hits are
-- counted.
pub record EntersNext (told : ToldValue) (lane : ℕ) (input : Input) (old new : JudgingValue) : Type 0 where
  pub entries : List DocketEntry
  pub tally : List Count
  pub was : slice_get old.dockets (lane - 1) ≡ Some entries
  pub had : slice_get old.tallies (lane - 1) ≡ Some tally
  pub entry : DocketEntry
  pub after : List Count
  pub told_so : IsToldSo told lane (length entries + 1) input entry
  pub counted : (hits : List Hit) → IsTallyOf hits tally → IsTallyOf (hits ++ record_hits told.editions (asks_told told lane) (length entries + 1) input entry) after
  pub dockets : new.dockets ≡ slice_set old.dockets (lane - 1) (entries ++ entry ∷ [])
  pub tallies : new.tallies ≡ slice_set old.tallies (lane - 1) after

-- The next record of a lane isn't as the report tells it, and this is its line.
pub record FailsNext (told : ToldValue) (lane : ℕ) (input : Input) (old : JudgingValue) (line : ℕ) : Type 0 where
  pub entries : List DocketEntry
  pub was : slice_get old.dockets (lane - 1) ≡ Some entries
  pub wrong : (entry : DocketEntry) → IsToldSo told lane (length entries + 1) input entry → ⊥
  pub named : line ≡ number_or_last told (line_naming told lane (length entries + 1))
