-- What is told of records, by the entries that differ.
use Rattle.std.specs.Prelude.{◌≡◌, ◌≢◌, ℕ, ◌<◌, Some, List, length, map, slice_index_or}
use Rattle.std.specs.HashMap.{HashMap, get}
use Rattle.eval_engine.specs.contracts.docket_entry.DocketEntryPartialEq.TheImpl.{eq-value}
use Rattle.eval_engine.specs.declared.docket_entry.DocketEntry.{DocketEntry}
use Rattle.eval_engine.specs.declared.docket_entry.DocketEntry.TheVariants.{Other}

-- the entry at each of these places
abbrev pub entries_at : List DocketEntry → List ℕ → List DocketEntry
entries_at kinds places = map (λ place. slice_index_or kinds place Other) places

-- an entry stands at a place
pub record StandsAt (kinds : List DocketEntry) (place : ℕ) (entry : DocketEntry) : Type 0 where
  pub within : place < length kinds
  pub is : slice_index_or kinds place Other ≡ entry

-- an entry stands at no place
abbrev pub IsNew : List DocketEntry → DocketEntry → Type 0
IsNew kinds entry = (place : ℕ) → place < length kinds → slice_index_or kinds place Other ≢ entry

-- no entry stands at two places
abbrev pub AreDistinct : List DocketEntry → Type 0
AreDistinct kinds =
    (first second : ℕ) → first < length kinds → second < length kinds
    → slice_index_or kinds first Other ≡ slice_index_or kinds second Other → first ≡ second

-- a map tells each entry's place; it may tell one of others too
abbrev pub AreHinted : {S : Type 0} → List DocketEntry → HashMap DocketEntry ℕ S → Type 0
AreHinted kinds hints = (place : ℕ) → place < length kinds → get eq-value.it hints (slice_index_or kinds place Other) ≡ Some place
