-- What holds of every lane holds after each of its steps.
use Rattle.std.proofs.Common.{◌≡◌, ℕ, suc, ◌+◌, ◌%◌, ◌^◌, ◌≤◌, Bool, true, false, List, [], ◌∷◌, ◌++◌, length, map, Option, refl, sym, ap, ◌∙◌, subst, arith}
use Rattle.std.proofs.lemmas.List.{append-nil, length-append, map-append}
use Rattle.std.specs.Prelude.{All, is_some}
use Rattle.std.specs.List.{AllByRecursion}
use Rattle.std.specs.List.Sorted.{IsNonDecreasing}
use Rattle.counter_book.specs.declared.tally.Count.{Count}
use Rattle.eval_engine.proofs.Dockets.{judgements-append, judgements-judged}
use Rattle.eval_engine.specs.Dockets.{judged_entry, judgements}
use Rattle.eval_engine.specs.declared.docket_entry.DocketEntry.{DocketEntry}
use Rattle.eval_engine.specs.declared.judgement.Judgement.{Judgement}
use Rattle.cached_verdicts.specs.LaneCache.{LaneCacheValue}
use Rattle.fw_world.specs.Lane.{LaneValue, one_looser, with_docket_entry}
use Rattle.fw_world.specs.LaneKept.{IsLane}
use Rattle.fw_world.specs.Sections.{judged_editions, tracker_after}
use Rattle.fw_world.proofs.Records.{IsNonDecreasing-push}

-- the judged editions of two lists of entries stand one behind the other
pub judged_editions-append : (entries more : List DocketEntry) → judged_editions (entries ++ more) ≡ judged_editions entries ++ judged_editions more
judged_editions-append entries more =
    ap (λ (all : List Judgement). map (λ (one : Judgement). one.edition) all) (judgements-append entries more) ∙ map-append (λ (one : Judgement). one.edition) (judgements entries) (judgements more)

-- behind other entries, that of a judgement has its edition behind theirs
pub judged_editions-judged : (entries : List DocketEntry) (judgement : Judgement) → judged_editions (entries ++ judged_entry judgement ∷ []) ≡ judged_editions entries ++ judgement.edition ∷ []
judged_editions-judged entries judgement =
    judged_editions-append entries (judged_entry judgement ∷ [])
    ∙ ap (λ (all : List Judgement). judged_editions entries ++ map (λ (one : Judgement). one.edition) all) (judgements-judged (judged_entry judgement) [] judgement refl)

-- what holds at each place holds along the list
pub AllByRecursion-from_All : (P : ℕ → Type 0) (xs : List ℕ) → All P xs → AllByRecursion P xs
AllByRecursion-from_All P [] all = tt
AllByRecursion-from_All P (x ∷ xs) all = (all 0 x (omega arith), AllByRecursion-from_All P xs (λ k d within. all (suc k) d (omega arith)))

-- what is at 0 wasn't loosened
pub not_loose : (b : Bool) (loose : ℕ) → one_looser b loose ≡ 0 → (b ≡ false) × (loose ≡ 0)
not_loose false loose none = (refl, none)
not_loose true loose none = absurd (omega (arith, none))

-- the tracker word of one section more
pub one_section : (sections : ℕ) → (tracker_after sections + 2) % 2 ^ 64 ≡ tracker_after (sections + 1)
one_section sections = omega arith

-- a lane that began a section has it pending
pub IsLane-entered : (lane : LaneValue) → IsLane 0 lane → IsLane 1 (record lane { tracker = (lane.tracker + 2) % 2 ^ 64; loose = one_looser (is_some lane.refusal) lane.loose })
IsLane-entered lane is = record {
  numbered = is.numbered;
  above = is.above;
  rising = is.rising;
  few = λ none. is.few (not_loose (is_some lane.refusal) lane.loose none).1;
  tracked = λ none.
      let before = is.tracked (not_loose (is_some lane.refusal) lane.loose none).1 in
      let n : ℕ = length (judged_editions lane.docket.entries) + lane.docket.refused in
      let same : n + 0 + 1 ≡ n + 1 = omega arith in
      ap (λ (t : ℕ). (t + 2) % 2 ^ 64) before ∙ one_section (n + 0) ∙ ap tracker_after same;
}

-- where nothing pends after a judgement, its section is told
pub IsLane-judged : (lane : LaneValue) (judgement : Judgement) (tally : List Count) (cache : Option LaneCacheValue) → IsLane 1 lane → All (λ number. number ≤ judgement.edition) (judged_editions lane.docket.entries)
    → IsLane 0 (record (with_docket_entry (judged_entry judgement) lane) { tally = tally; cache = cache })
IsLane-judged lane judgement tally cache is below =
    let grown = judged_editions-judged lane.docket.entries judgement in
    record {
      numbered = is.numbered;
      above = is.above;
      rising = subst (λ (numbers : List ℕ). IsNonDecreasing numbers) (sym grown) (IsNonDecreasing-push (judged_editions lane.docket.entries) judgement.edition is.rising (AllByRecursion-from_All (λ number. number ≤ judgement.edition) (judged_editions lane.docket.entries) below));
      few = is.few;
      tracked = λ none.
          let longer = ap length grown ∙ length-append (judged_editions lane.docket.entries) (judgement.edition ∷ []) in
          let same : length (judged_editions lane.docket.entries) + lane.docket.refused + 1 ≡ length (judged_editions (lane.docket.entries ++ judged_entry judgement ∷ [])) + lane.docket.refused + 0 = omega (arith, longer) in
          is.tracked none ∙ ap tracker_after same;
    }

-- want of memory changes nothing of it
pub IsLane-failed : (pending : ℕ) (lane : LaneValue) (tally : List Count) (cache : Option LaneCacheValue) → IsLane pending lane → IsLane pending (record lane { tally = tally; cache = cache; failed = true })
IsLane-failed pending lane tally cache is = record { numbered = is.numbered; above = is.above; rising = is.rising; few = is.few; tracked = is.tracked }

-- entries that aren't judged
pub IsLane-skipped : (lane : LaneValue) (entered : DocketEntry) → judged_editions (entered ∷ []) ≡ [] → IsLane 0 lane → IsLane 0 (with_docket_entry entered lane)
IsLane-skipped lane entered skipped is =
    let same = judged_editions-append lane.docket.entries (entered ∷ []) ∙ ap (λ (rest : List ℕ). judged_editions lane.docket.entries ++ rest) skipped ∙ append-nil _ in
    record {
      numbered = is.numbered;
      above = is.above;
      rising = rw same is.rising;
      few = is.few;
      tracked = λ none. is.tracked none ∙ ap (λ (n : ℕ). tracker_after (n + lane.docket.refused + 0)) (sym (ap length same));
    }
