-- Where every record of a lane is as the report tells it and every ask is of a judged record, the lane's asks are those
-- of its entries.
use Rattle.std.proofs.Common.{◌≡◌, ℕ, zero, suc, ◌+◌, ◌-◌, ◌<◌, ◌≤◌, ◌==◌, Bool, true, List, [], ◌∷◌, length, map, get_or, Option, Some, None, refl, sym, ap, ◌∙◌, subst, inl, inr, arith}
use Rattle.std.specs.Prelude.{slice_get, IsSome, IfSome, IsSomeAnd, option_and_then}
use Rattle.std.specs.Option.{option_map}
use Rattle.std.specs.List.{filter, AllByRecursion}
use Rattle.std.specs.List.Sorted.{IsNonDecreasing}
use Rattle.std.proofs.lemmas.Bool.{cases_Bool, cases_lt}
use Rattle.std.proofs.lemmas.Option.{slice_get-map, get_or_from_slice_get}
use Rattle.std.proofs.lemmas.List.{length-map}
use Rattle.eval_engine.specs.Dockets.{judgement_in}
use Rattle.eval_engine.specs.declared.docket_entry.DocketEntry.{DocketEntry}
use Rattle.eval_engine.specs.declared.judgement.Judgement.{Judgement}
use Rattle.fw_world.specs.Asks.{LaneAsk, AreAsksOf, IsAskOfEntry, IsJudgedUnder}
use Rattle.fw_world.specs.Entries.{EachRecord}
use Rattle.fw_world.specs.Inputs.{Input}
use Rattle.run_audit.specs.Judging.{ToldValue, AreTimely, IsToldSo, asks_told}

-- a fact of each place is one of all
pub all_from_places : {X : Type 0} (P : X → Type 0) (xs : List X) → ((k : ℕ) (x : X) → slice_get xs k ≡ Some x → P x) → AllByRecursion P xs
all_from_places P [] each = tt
all_from_places P (x ∷ xs) each = (each 0 x refl, all_from_places P xs (λ k y is. each (suc k) y is))

-- a fact of all that pass is one of each that passes
pub passed_in_place : {X : Type 0} (P : X → Type 0) (p : X → Bool) (xs : List X) (k : ℕ) (x : X) → AllByRecursion P (filter p xs) → slice_get xs k ≡ Some x → p x ≡ true → P x
passed_in_place P p [] k x all is passes = absurd (cc)
passed_in_place P p (y ∷ xs) zero x all is passes =
    let same : y ≡ x = cc in
    let first : p y ≡ true = ap p same ∙ passes in
    let both : AllByRecursion P (y ∷ filter p xs) = rw first at all in
    subst P same both.0
passed_in_place P p (y ∷ xs) (suc k) x all is passes = elim (cases_Bool (p y)) [
  | inl first ↦
      let both : AllByRecursion P (y ∷ filter p xs) = rw first at all in
      passed_in_place P p xs k x both.1 is passes
  | inr other ↦
      let rest : AllByRecursion P (filter p xs) = rw other at all in
      passed_in_place P p xs k x rest is passes
]

-- there is something in each place within
pub some_within : {X : Type 0} (xs : List X) (k : ℕ) → k < length xs → (x : X) × (slice_get xs k ≡ Some x)
some_within [] k less = absurd (omega (arith, less))
some_within (x ∷ xs) zero less = (x, refl)
some_within (x ∷ xs) (suc k) less = some_within xs k (omega (arith, less))

-- the record of an entry
pub record_in : (P : ℕ → Input → DocketEntry → Type 0) (at : ℕ) (inputs : List Input) (entries : List DocketEntry) (k : ℕ) (entry : DocketEntry) → EachRecord P at inputs entries
    → slice_get entries k ≡ Some entry → (input : Input) × P (at + k) input entry
record_in P at [] [] k entry each is = absurd (cc)
record_in P at [] (first ∷ entries) k entry each is = absurd each
record_in P at (met ∷ inputs) [] k entry each is = absurd each
record_in P at (met ∷ inputs) (first ∷ entries) zero entry each is =
    let same : first ≡ entry = cc in
    let here : at ≡ at + 0 = omega arith in
    (met, subst (λ (n : ℕ). P n met entry) here (subst (P at met) same each.0))
record_in P at (met ∷ inputs) (first ∷ entries) (suc k) entry each is =
    let (input, so) = record_in P (at + 1) inputs entries k entry each.1 is in
    let place : at + 1 + k ≡ at + suc k = omega arith in
    (input, subst (λ (n : ℕ). P n input entry) place so)

-- an ask is of a judged record of its lane
abbrev pub IsOfJudged : List DocketEntry → LaneAsk → Type 0
IsOfJudged entries ask = (1 ≤ ask.at) × IsSome (option_and_then judgement_in (slice_get entries (ask.at - 1)))

module _ (told : ToldValue) (lane : ℕ) (inputs : List Input) (entries : List DocketEntry) (each : EachRecord (IsToldSo told lane) 1 inputs entries)
    (judged : AllByRecursion (IsOfJudged entries) (asks_told told lane))
  where
    -- What is known of an ask of the lane: its record's entry and judgement, and that the record's asks are timely.
    record IsKnown (ask : LaneAsk) : Type 0 where
      first : 1 ≤ ask.at
      entry : DocketEntry
      found : slice_get entries (ask.at - 1) ≡ Some entry
      judgement : Judgement
      is : judgement_in entry ≡ Some judgement
      timely : AreTimely (asks_told told lane) ask.at judgement.edition

    in_place : (P : LaneAsk → Type 0) (xs : List LaneAsk) (k : ℕ) (ask : LaneAsk) → AllByRecursion P xs → slice_get xs k ≡ Some ask → P ask
    in_place P [] k ask all is = absurd (cc)
    in_place P (first ∷ xs) zero ask all is = let same : first ≡ ask = cc in subst P same all.0
    in_place P (first ∷ xs) (suc k) ask all is = in_place P xs k ask all.1 is

    known : (k : ℕ) (ask : LaneAsk) → slice_get (asks_told told lane) k ≡ Some ask → IsKnown ask
    known k ask is = by_entry (slice_get entries (ask.at - 1)) refl own.1
      where
        own : IsOfJudged entries ask
        own = in_place (IsOfJudged entries) (asks_told told lane) k ask judged is

        by_judgement : (entry : DocketEntry) → slice_get entries (ask.at - 1) ≡ Some entry → (o : Option Judgement) → judgement_in entry ≡ o → IsSome o → IsKnown ask
        by_judgement entry found None same some = absurd (cc)
        by_judgement entry found (Some judgement) same some =
            let (input, so) = record_in (IsToldSo told lane) 1 inputs entries (ask.at - 1) entry each found in
            let place : 1 + (ask.at - 1) ≡ ask.at = omega (arith, own.0) in
            record {
              first = own.0;
              entry = entry;
              found = found;
              judgement = judgement;
              is = same;
              timely = subst (λ (n : ℕ). AreTimely (asks_told told lane) n judgement.edition) place
                  (subst (λ (o : Option Judgement). IfSome o (λ (j : Judgement). AreTimely (asks_told told lane) (1 + (ask.at - 1)) j.edition)) same so.timely);
            }

        by_entry : (o : Option DocketEntry) → slice_get entries (ask.at - 1) ≡ o → IsSome (option_and_then judgement_in o) → IsKnown ask
        by_entry None found some = absurd (cc)
        by_entry (Some entry) found some = by_judgement entry found (judgement_in entry) refl some

    of_entry : (k : ℕ) (ask : LaneAsk) → slice_get (asks_told told lane) k ≡ Some ask → IsAskOfEntry entries ask
    of_entry k ask is =
        let so = known k ask is in
        let under : ask.after ≡ so.judgement.edition =
        passed_in_place (λ (one : LaneAsk). one.after ≡ so.judgement.edition) (λ (one : LaneAsk). one.at == ask.at) (asks_told told lane) k ask so.timely.under is (itself ask.at) in
        subst (λ (o : Option DocketEntry). IsSomeAnd o (IsJudgedUnder ask.after)) (sym so.found)
        (subst (λ (o : Option Judgement). IsSomeAnd o (λ (j : Judgement). j.edition ≡ ask.after)) (sym so.is) (sym under))
      where
        itself : (n : ℕ) → (n == n) ≡ true
        itself n = grind (arith)

    number_in : (k d : ℕ) (ask : LaneAsk) → slice_get (asks_told told lane) k ≡ Some ask → get_or (map (λ (one : LaneAsk). one.at) (asks_told told lane)) k d ≡ ask.at
    number_in k d ask is =
        get_or_from_slice_get (map (λ (one : LaneAsk). one.at) (asks_told told lane)) k ask.at d
        (slice_get-map (λ (one : LaneAsk). one.at) (asks_told told lane) k ∙ ap (option_map (λ (one : LaneAsk). one.at)) is)

    rising : IsNonDecreasing (map (λ (one : LaneAsk). one.at) (asks_told told lane))
    rising i j d up within = elim (cases_lt i j) [
      | inl less ↦
          let many : length (map (λ (one : LaneAsk). one.at) (asks_told told lane)) ≡ length (asks_told told lane) = length-map (asks_told told lane) (λ (one : LaneAsk). one.at) in
          let (before, is_before) = some_within (asks_told told lane) i (omega (arith, many, within, less)) in
          let (own, is_own) = some_within (asks_told told lane) j (omega (arith, many, within)) in
          let lower : before.at ≤ own.at = (known j own is_own).timely.ordered i j before own less is_before is_own refl in
          subst (λ (n : ℕ). n ≤ get_or (map (λ (one : LaneAsk). one.at) (asks_told told lane)) j d) (sym (number_in i d before is_before))
          (subst (λ (n : ℕ). before.at ≤ n) (sym (number_in j d own is_own)) lower)
      | inr more ↦
          let same : i ≡ j = omega (arith, up, more) in
          subst (λ (n : ℕ). get_or (map (λ (one : LaneAsk). one.at) (asks_told told lane)) i d ≤ get_or (map (λ (one : LaneAsk). one.at) (asks_told told lane)) n d) same (omega arith)
    ]

    -- the lane's asks are those of its entries
    pub lane_asked : AreAsksOf entries (asks_told told lane)
    lane_asked = record {
      ordered = rising;
      numbered = all_from_places (λ (ask : LaneAsk). 1 ≤ ask.at) (asks_told told lane) (λ k ask is. (known k ask is).first);
      entered = all_from_places (IsAskOfEntry entries) (asks_told told lane) of_entry;
    }
