-- The docket in a place, and one more entry of it.
use Rattle.std.proofs.Common.{◌≡◌, ℕ, ◌<◌, List, [], ◌∷◌, ◌++◌, length, map, get_or, Option, Some, Result, Ok, Err, sym, ap, ◌∙◌}
use Rattle.std.specs.Prelude.{slice_get, slice_set, unwrap_or, OnOk}
use Rattle.std.specs.Option.{option_map}
use Rattle.std.proofs.Math.Seq.{map-set_same}
use Rattle.std.proofs.lemmas.List.{map-set}
use Rattle.std.proofs.lemmas.Option.{slice_get-map, slice_get-get_or}
use Rattle.eval_engine.specs.Dockets.{DocketValue}
use Rattle.eval_engine.specs.declared.docket_entry.DocketEntry.{DocketEntry}
use Rattle.run_audit.specs.JudgingValues.{entries_at, entries_of_each}

-- the entries of the docket in a place
pub entries_there : (dockets : List DocketValue) (place : ℕ) (docket d : DocketValue) → place < length dockets → docket ≡ get_or dockets place d
    → slice_get (entries_of_each dockets) place ≡ Some docket.entries
entries_there dockets place docket d within is =
    slice_get-map (λ (one : DocketValue). one.entries) dockets place
    ∙ ap (option_map (λ (one : DocketValue). one.entries)) (slice_get-get_or dockets place d within ∙ ap Some (sym is))

-- the entries of the docket in a place
pub entries_are : (dockets : List DocketValue) (place : ℕ) (docket d : DocketValue) → place < length dockets → docket ≡ get_or dockets place d → entries_at dockets place ≡ docket.entries
entries_are dockets place docket d within is = ap (λ (o : Option (List DocketEntry)). unwrap_or o []) (entries_there dockets place docket d within is)

-- one more entry
pub entered_there : (dockets : List DocketValue) (place : ℕ) (docket new d : DocketValue) (entry : DocketEntry) → place < length dockets → docket ≡ get_or dockets place d
    → new ≡ record docket { entries = docket.entries ++ entry ∷ [] } → entries_of_each (slice_set dockets place new) ≡ slice_set (entries_of_each dockets) place (entries_at dockets place ++ entry ∷ [])
entered_there dockets place docket new d entry within is more =
    map-set (λ (d : DocketValue). d.entries) dockets place new
    ∙ ap (slice_set (entries_of_each dockets) place) (ap (λ (d : DocketValue). d.entries) more ∙ ap (λ (es : List DocketEntry). es ++ entry ∷ []) (sym (entries_are dockets place docket d within is)))

-- of as many refused entries
pub refused_there : (dockets : List DocketValue) (place : ℕ) (docket new d : DocketValue) → docket ≡ get_or dockets place d → new.refused ≡ docket.refused
    → map (λ (d : DocketValue). d.refused) (slice_set dockets place new) ≡ map (λ (d : DocketValue). d.refused) dockets
refused_there dockets place docket new d is same =
    map-set_same (λ (one : DocketValue). one.refused) dockets place new d (same ∙ ap (λ (one : DocketValue). one.refused) is)

-- where a call succeeds
pub on_ok_map : {T E : Type 0} (P Q : Type 0) (r : Result T E) → (P → Q) → OnOk r P → OnOk r Q
on_ok_map P Q (Ok x) goes so = goes so
on_ok_map P Q (Err e) goes so = tt
