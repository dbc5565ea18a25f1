-- One record more of a lane, from what the calls give.
use Rattle.std.proofs.Common.{◌≡◌, ℕ, zero, suc, ◌+◌, ◌-◌, ◌<◌, List, [], ◌∷◌, ◌++◌, length, get_or, Some, refl, sym, ap, ◌∙◌, subst, arith}
use Rattle.std.specs.Prelude.{slice_get, slice_set, unwrap_or, IsSomeAnd}
use Rattle.std.proofs.lemmas.List.{append-nil, length-map, set-get_or}
use Rattle.std.proofs.lemmas.Option.{slice_get-get_or}
use Rattle.counter_book.specs.declared.tally.Count.{Count}
use Rattle.eval_engine.specs.Dockets.{DocketValue}
use Rattle.eval_engine.specs.declared.docket_entry.DocketEntry.{DocketEntry}
use Rattle.fw_world.specs.Inputs.{Input}
use Rattle.fw_world.specs.Skips.{entry_for, skipped_input}
use Rattle.fw_world.specs.declared.skipped.Skipped.{Skipped}
use Rattle.fw_world.specs.declared.skipped.Skipped.TheVariants.{Other, Malformed}
use Rattle.report_reading.specs.RecordLines.{printed}
use Rattle.fw_world.specs.Tallies.{Hit, IsTallyOf, record_hits}
use Rattle.run_audit.specs.Entering.{EntersNext, FailsNext}
use Rattle.run_audit.specs.Judging.{ToldValue, IsToldSo, asks_told, line_naming, number_or_last}
use Rattle.run_audit.specs.JudgingValues.{entries_at, entries_of_each}

some_entries : (all : List (List DocketEntry)) (place : ℕ) → place < length all → slice_get all place ≡ Some (unwrap_or (slice_get all place) [])
some_entries [] place less = absurd (omega (arith, less))
some_entries (first ∷ all) zero less = refl
some_entries (first ∷ all) (suc place) less = some_entries all place (omega (arith, less))

was_there : (dockets : List DocketValue) (place : ℕ) → place < length dockets → slice_get (entries_of_each dockets) place ≡ Some (entries_at dockets place)
was_there dockets place less =
    let many : length (entries_of_each dockets) ≡ length dockets = length-map dockets (λ (d : DocketValue). d.entries) in
    some_entries (entries_of_each dockets) place (omega (arith, many, less))

module _ (told : ToldValue) (lane : ℕ) (input : Input) (dockets : List DocketValue) (tallies : List (List Count)) (number place : ℕ) (placed : place ≡ lane - 1)
    (within : place < length dockets) (next : number ≡ length (entries_at dockets (lane - 1)) + 1)
  where
    was_here : slice_get (entries_of_each dockets) (lane - 1) ≡ Some (entries_at dockets (lane - 1))
    was_here = was_there dockets (lane - 1) (subst (λ (n : ℕ). n < length dockets) placed within)

    -- it is as the report tells it
    pub enters : (new : List DocketValue) (tally after : List Count) (entry : DocketEntry) → place < length tallies → tally ≡ get_or tallies place tally → IsToldSo told lane number input entry
        → ((hits : List Hit) → IsTallyOf hits tally → IsTallyOf (hits ++ record_hits told.editions (asks_told told lane) number input entry) after)
        → entries_of_each new ≡ slice_set (entries_of_each dockets) place (entries_at dockets place ++ entry ∷ [])
        → EntersNext told lane input (record { dockets = entries_of_each dockets; tallies = tallies }) (record { dockets = entries_of_each new; tallies = slice_set tallies place after })
    enters new tally after entry paired is so counted entered = record {
      entries = entries_at dockets (lane - 1);
      tally = tally;
      was = was_here;
      had = ap (slice_get tallies) (sym placed) ∙ slice_get-get_or tallies place tally paired ∙ ap Some (sym is);
      entry = entry;
      after = after;
      told_so = subst (λ (n : ℕ). IsToldSo told lane n input entry) next so;
      counted = subst (λ (n : ℕ). (hits : List Hit) → IsTallyOf hits tally → IsTallyOf (hits ++ record_hits told.editions (asks_told told lane) n input entry) after) next counted;
      dockets = entered ∙ ap (λ (n : ℕ). slice_set (entries_of_each dockets) n (entries_at dockets n ++ entry ∷ [])) placed;
      tallies = ap (λ (n : ℕ). slice_set tallies n after) placed;
    }

    -- it isn't
    pub fails : (tallied : List (List Count)) (line : ℕ) → ((entry : DocketEntry) → IsToldSo told lane number input entry → ⊥) → line ≡ number_or_last told (line_naming told lane number)
        → FailsNext told lane input (record { dockets = entries_of_each dockets; tallies = tallied }) line
    fails tallied line wrong named = record {
      entries = entries_at dockets (lane - 1);
      was = was_here;
      wrong = λ (entry : DocketEntry) (so : IsToldSo told lane (length (entries_at dockets (lane - 1)) + 1) input entry). wrong entry (subst (λ (n : ℕ). IsToldSo told lane n input entry) (sym next) so);
      named = named ∙ ap (λ (n : ℕ). number_or_last told (line_naming told lane n)) next;
    }

-- ---- records that aren't judged

-- what is entered for one is told so by its line
pub skipped_so : (told : ToldValue) (lane at : ℕ) (skipped : Skipped) → IsSomeAnd (line_naming told lane at) (λ one. one.told.entry ≡ printed (entry_for skipped))
    → IsToldSo told lane at (skipped_input skipped) (entry_for skipped)
skipped_so told lane at Other named = record { named = named; entered = refl; evaluated = tt; timely = tt }
skipped_so told lane at (Malformed kind) named = record { named = named; entered = refl; evaluated = tt; timely = tt }

-- and nothing else is
pub not_skipped : (told : ToldValue) (lane at : ℕ) (skipped : Skipped) (entry : DocketEntry) → IsToldSo told lane at (skipped_input skipped) entry
    → IsSomeAnd (line_naming told lane at) (λ one. one.told.entry ≡ printed (entry_for skipped))
not_skipped told lane at Other entry so = subst (λ (e : DocketEntry). IsSomeAnd (line_naming told lane at) (λ one. one.told.entry ≡ printed e)) so.entered so.named
not_skipped told lane at (Malformed kind) entry so = subst (λ (e : DocketEntry). IsSomeAnd (line_naming told lane at) (λ one. one.told.entry ≡ printed e)) so.entered so.named

-- it counts nothing
pub skipped_counts : (told : ToldValue) (lane at : ℕ) (skipped : Skipped) (entry : DocketEntry) (tally : List Count) (hits : List Hit) → IsTallyOf hits tally
    → IsTallyOf (hits ++ record_hits told.editions (asks_told told lane) at (skipped_input skipped) entry) tally
skipped_counts told lane at Other entry tally hits tallied = subst (λ (all : List Hit). IsTallyOf all tally) (sym (append-nil hits)) tallied
skipped_counts told lane at (Malformed kind) entry tally hits tallied = subst (λ (all : List Hit). IsTallyOf all tally) (sym (append-nil hits)) tallied

some_counts : (x y : List Count) → Some x ≡ Some y → x ≡ y
some_counts x y is = cc

-- a record that isn't judged is entered, and nothing is counted
pub skipped_enters : (told : ToldValue) (lane : ℕ) (skipped : Skipped) (dockets : List DocketValue) (tallies : List (List Count)) (number place : ℕ) → place ≡ lane - 1 → place < length dockets
    → number ≡ length (entries_at dockets (lane - 1)) + 1 → (new : List DocketValue) → place < length tallies → IsSomeAnd (line_naming told lane number) (λ one. one.told.entry ≡ printed (entry_for skipped))
    → entries_of_each new ≡ slice_set (entries_of_each dockets) place (entries_at dockets place ++ entry_for skipped ∷ [])
    → EntersNext told lane (skipped_input skipped) (record { dockets = entries_of_each dockets; tallies = tallies }) (record { dockets = entries_of_each new; tallies = tallies })
skipped_enters told lane skipped dockets tallies number place placed within next new paired named entered =
    let tally : List Count = get_or tallies place [] in
    let is : tally ≡ get_or tallies place tally = some_counts _ _ (sym (slice_get-get_or tallies place [] paired) ∙ slice_get-get_or tallies place tally paired) in
    subst (λ (ts : List (List Count)). EntersNext told lane (skipped_input skipped) (record { dockets = entries_of_each dockets; tallies = tallies }) (record { dockets = entries_of_each new; tallies = ts })) (set-get_or tallies place [])
    (enters told lane (skipped_input skipped) dockets tallies number place placed within next new tally tally (entry_for skipped) paired is (skipped_so told lane number skipped named)
    (λ (hits : List Hit) (tallied : IsTallyOf hits tally). skipped_counts told lane number skipped (entry_for skipped) tally hits tallied) entered)
