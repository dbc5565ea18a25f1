-- What holds of an audit's records holds with one record more.
use Rattle.std.proofs.Common.{◌≡◌, ℕ, zero, suc, ◌+◌, List, [], ◌∷◌, ◌++◌, length, Some, refl, sym, ap, ◌∙◌, subst, arith}
use Rattle.std.specs.Prelude.{slice_get, slice_set}
use Rattle.std.proofs.lemmas.List.{append-nil, append_assoc}
use Rattle.counter_book.specs.declared.tally.Count.{Count}
use Rattle.eval_engine.specs.declared.docket_entry.DocketEntry.{DocketEntry}
use Rattle.fw_world.proofs.Records.{EachRecord-append}
use Rattle.fw_world.specs.Asks.{LaneAsk}
use Rattle.fw_world.specs.Entries.{EachRecord}
use Rattle.fw_world.specs.Inputs.{Input}
use Rattle.fw_world.specs.Tallies.{Hit, IsTallyOf, lane_hits, record_hits}
use Rattle.generation_store.specs.Published.{Published}
use Rattle.run_audit.specs.Audit.{AreTalliesOf, with_input}
use Rattle.run_audit.specs.Judging.{ToldValue, IsToldSo, AreToldSo, FailsAtRecord, asks_told, line_naming, number_or_last}

some_one : {X : Type 0} (x y : X) → Some x ≡ Some y → x ≡ y
some_one x y is = cc

-- the records of all lanes, with one record more
pub AreToldSo-more : (told : ToldValue) (k p : ℕ) (inputs : List (List Input)) (dockets : List (List DocketEntry)) (input : Input) (entries : List DocketEntry) (entry : DocketEntry)
    → AreToldSo told k inputs dockets → slice_get dockets p ≡ Some entries → IsToldSo told (k + p) (length entries + 1) input entry
    → AreToldSo told k (with_input p input inputs) (slice_set dockets p (entries ++ entry ∷ []))
AreToldSo-more told k p [] [] input entries entry are was one = absurd (cc)
AreToldSo-more told k p [] (first ∷ dockets) input entries entry are was one = absurd are
AreToldSo-more told k p (own ∷ others) [] input entries entry are was one = absurd are
AreToldSo-more told k zero (own ∷ others) (first ∷ dockets) input entries entry are was one =
    let same : entries ≡ first = sym (some_one first entries was) in
    let each : EachRecord (IsToldSo told k) 1 own entries = subst (λ (es : List DocketEntry). EachRecord (IsToldSo told k) 1 own es) (sym same) are.0 in
    let lane : k + 0 ≡ k = omega arith in
    let place : length entries + 1 ≡ 1 + length entries = omega arith in
    let here : IsToldSo told k (1 + length entries) input entry = subst (λ (n : ℕ). IsToldSo told k n input entry) place (subst (λ (n : ℕ). IsToldSo told n (length entries + 1) input entry) lane one) in
    (EachRecord-append (IsToldSo told k) 1 own entries input entry each here, are.1)
AreToldSo-more told k (suc p) (own ∷ others) (first ∷ dockets) input entries entry are was one =
    let lane : k + suc p ≡ k + 1 + p = omega arith in
    (are.0, AreToldSo-more told (k + 1) p others dockets input entries entry are.1 was (subst (λ (n : ℕ). IsToldSo told n (length entries + 1) input entry) lane one))

-- the hits of one record more
lane_hits-append : (editions : List Published) (asks : List LaneAsk) (at : ℕ) (inputs : List Input) (entries : List DocketEntry) (input : Input) (entered : DocketEntry)
    (P : ℕ → Input → DocketEntry → Type 0) → EachRecord P at inputs entries
    → lane_hits editions asks at (inputs ++ input ∷ []) (entries ++ entered ∷ []) ≡ lane_hits editions asks at inputs entries ++ record_hits editions asks (at + length entries) input entered
lane_hits-append editions asks at [] [] input entered P each =
    let same : at ≡ at + 0 = omega arith in append-nil _ ∙ ap (λ (n : ℕ). record_hits editions asks n input entered) same
lane_hits-append editions asks at [] (first ∷ entries) input entered P each = absurd each
lane_hits-append editions asks at (met ∷ inputs) [] input entered P each = absurd each
lane_hits-append editions asks at (met ∷ inputs) (first ∷ entries) input entered P each =
    let same : at + 1 + length entries ≡ at + length (first ∷ entries) = omega arith in
    ap (λ (rest : List Hit). record_hits editions asks at met first ++ rest)
    (lane_hits-append editions asks (at + 1) inputs entries input entered P each.1 ∙ ap (λ (n : ℕ). lane_hits editions asks (at + 1) inputs entries ++ record_hits editions asks n input entered) same)
    ∙ sym (append_assoc (record_hits editions asks at met first) _ _)

-- the tallies of all lanes, with one record more
pub AreTalliesOf-more : (told : ToldValue) (k p : ℕ) (inputs : List (List Input)) (dockets : List (List DocketEntry)) (tallies : List (List Count)) (input : Input)
    (entries : List DocketEntry) (tally after : List Count) (entry : DocketEntry)
    → AreToldSo told k inputs dockets → AreTalliesOf told k inputs dockets tallies → slice_get dockets p ≡ Some entries → slice_get tallies p ≡ Some tally
    → ((hits : List Hit) → IsTallyOf hits tally → IsTallyOf (hits ++ record_hits told.editions (asks_told told (k + p)) (length entries + 1) input entry) after)
    → AreTalliesOf told k (with_input p input inputs) (slice_set dockets p (entries ++ entry ∷ [])) (slice_set tallies p after)
AreTalliesOf-more told k p [] [] tallies input entries tally after entry told_so are was had counted = absurd (cc)
AreTalliesOf-more told k p [] (first ∷ dockets) tallies input entries tally after entry told_so are was had counted = absurd told_so
AreTalliesOf-more told k p (own ∷ others) [] tallies input entries tally after entry told_so are was had counted = absurd told_so
AreTalliesOf-more told k p (own ∷ others) (first ∷ dockets) [] input entries tally after entry told_so are was had counted = absurd are
AreTalliesOf-more told k zero (own ∷ others) (first ∷ dockets) (counts ∷ tallies) input entries tally after entry told_so are was had counted =
    let same : entries ≡ first = sym (some_one first entries was) in
    let same_tally : tally ≡ counts = sym (some_one counts tally had) in
    let each : EachRecord (IsToldSo told k) 1 own entries = subst (λ (es : List DocketEntry). EachRecord (IsToldSo told k) 1 own es) (sym same) told_so.0 in
    let lane : k + 0 ≡ k = omega arith in
    let place : length entries + 1 ≡ 1 + length entries = omega arith in
    let hits : List Hit = lane_hits told.editions (asks_told told k) 1 own entries in
    let tallied : IsTallyOf hits tally = subst (λ (es : List DocketEntry). IsTallyOf (lane_hits told.editions (asks_told told k) 1 own es) tally) (sym same)
    (subst (λ (t : List Count). IsTallyOf (lane_hits told.editions (asks_told told k) 1 own first) t) (sym same_tally) are.0) in
    let more : IsTallyOf (hits ++ record_hits told.editions (asks_told told (k + 0)) (length entries + 1) input entry) after = counted hits tallied in
    let here : IsTallyOf (hits ++ record_hits told.editions (asks_told told k) (1 + length entries) input entry) after =
    subst (λ (n : ℕ). IsTallyOf (hits ++ record_hits told.editions (asks_told told k) n input entry) after) place
    (subst (λ (n : ℕ). IsTallyOf (hits ++ record_hits told.editions (asks_told told n) (length entries + 1) input entry) after) lane more) in
    (subst (λ (all : List Hit). IsTallyOf all after) (sym (lane_hits-append told.editions (asks_told told k) 1 own entries input entry (IsToldSo told k) each)) here, are.1)
AreTalliesOf-more told k (suc p) (own ∷ others) (first ∷ dockets) (counts ∷ tallies) input entries tally after entry told_so are was had counted =
    let lane : k + suc p ≡ k + 1 + p = omega arith in (
      are.0,
      AreTalliesOf-more told (k + 1) p others dockets tallies input entries tally after entry told_so.1 are.1 was had
          (subst (λ (n : ℕ). (hits : List Hit) → IsTallyOf hits tally → IsTallyOf (hits ++ record_hits told.editions (asks_told told n) (length entries + 1) input entry) after) lane counted),
    )

-- What stands before a place, in it, and behind it.
record IsSplitAt (told : ToldValue) (k p : ℕ) (inputs : List (List Input)) (dockets : List (List DocketEntry)) (entries : List DocketEntry) (input : Input) : Type 0 where
  before : List (List Input)
  front : List Input
  behind : List (List Input)
  own : List (List DocketEntry)
  split : with_input p input inputs ≡ before ++ (front ++ input ∷ []) ∷ behind
  place : length before ≡ p
  told_before : AreToldSo told k (before ++ front ∷ []) own
  at : length front ≡ length entries

each_length : (P : ℕ → Input → DocketEntry → Type 0) (at : ℕ) (inputs : List Input) (entries : List DocketEntry) → EachRecord P at inputs entries → length inputs ≡ length entries
each_length P at [] [] each = refl
each_length P at [] (first ∷ entries) each = absurd each
each_length P at (met ∷ inputs) [] each = absurd each
each_length P at (met ∷ inputs) (first ∷ entries) each = omega (arith, each_length P (at + 1) inputs entries each.1)

splits : (told : ToldValue) (k p : ℕ) (inputs : List (List Input)) (dockets : List (List DocketEntry)) (input : Input) (entries : List DocketEntry)
    → AreToldSo told k inputs dockets → slice_get dockets p ≡ Some entries → IsSplitAt told k p inputs dockets entries input
splits told k p [] [] input entries are was = absurd (cc)
splits told k p [] (first ∷ dockets) input entries are was = absurd are
splits told k p (own ∷ others) [] input entries are was = absurd are
splits told k zero (own ∷ others) (first ∷ dockets) input entries are was = record {
  before = [];
  front = own;
  behind = others;
  own = first ∷ [];
  split = refl;
  place = refl;
  told_before = (are.0, tt);
  at = each_length (IsToldSo told k) 1 own first are.0 ∙ ap length (some_one first entries was);
}
splits told k (suc p) (own ∷ others) (first ∷ dockets) input entries are was =
    let rest = splits told (k + 1) p others dockets input entries are.1 was in record {
      before = own ∷ rest.before;
      front = rest.front;
      behind = rest.behind;
      own = first ∷ rest.own;
      split = ap (λ (all : List (List Input)). own ∷ all) rest.split;
      place = omega (arith, rest.place);
      told_before = (are.0, rest.told_before);
      at = rest.at;
    }

-- the record that isn't told so is the first such one
pub fails_next : (told : ToldValue) (p : ℕ) (inputs : List (List Input)) (dockets : List (List DocketEntry)) (input : Input) (entries : List DocketEntry) (line : ℕ)
    → AreToldSo told 1 inputs dockets → slice_get dockets p ≡ Some entries → ((entry : DocketEntry) → IsToldSo told (p + 1) (length entries + 1) input entry → ⊥)
    → line ≡ number_or_last told (line_naming told (p + 1) (length entries + 1)) → FailsAtRecord told (with_input p input inputs) line
fails_next told p inputs dockets input entries line are was wrong named =
    let at = splits told 1 p inputs dockets input entries are was in
    record {
      before = at.before;
      behind = at.behind;
      front = at.front;
      input = input;
      rest = [];
      split = at.split;
      dockets = at.own;
      told_before = at.told_before;
      wrong = λ (entry : DocketEntry) (is : IsToldSo told (length at.before + 1) (length at.front + 1) input entry).
          wrong entry (subst (λ (n : ℕ). IsToldSo told (n + 1) (length entries + 1) input entry) at.place (subst (λ (n : ℕ). IsToldSo told (length at.before + 1) (n + 1) input entry) at.at is));
      named = named ∙ ap (λ (n : ℕ). number_or_last told (line_naming told (n + 1) (length entries + 1))) (sym at.place)
          ∙ ap (λ (n : ℕ). number_or_last told (line_naming told (length at.before + 1) (n + 1))) (sym at.at);
    }
