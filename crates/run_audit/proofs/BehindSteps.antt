-- Steps of the tests of what stands behind the records.
use Rattle.std.proofs.Common.{◌≡◌, ℕ, ◌+◌, ◌<◌, ◌==◌, Bool, cond, List, [], ◌∷◌, ◌++◌, length, take, get_or, Option, Some, None, refl, sym, ap, ◌∙◌, inl, inr}
use Rattle.std.specs.List.{find}
use Rattle.std.proofs.lemmas.Bool.{cases_Bool, eqb-true}
use Rattle.std.proofs.lemmas.List.{take_more}
use Rattle.eval_engine.specs.declared.docket_entry.DocketEntry.{DocketEntry}
use Rattle.report_reading.specs.Lines.{lines_with_ends}
use Rattle.run_audit.specs.Indexes.{is_line_of_lane}
use Rattle.run_audit.specs.Judging.{ToldValue}
use Rattle.run_audit.specs.LeftOver.{first_left_over}
use Rattle.run_audit.specs.ToldReport.{lines_told}
use Rattle.run_audit.specs.declared.told_report.ToldLane.{ToldLane}

-- where no line is left none is left over
pub none_over : (told : ToldValue) (dockets : List (List DocketEntry)) (number : ℕ) (rest : List ℕ) → rest ≡ [] → None ≡ first_left_over told dockets number (lines_told rest)
unfolding lines_with_ends
none_over told dockets number rest is = rw is refl

-- what was found, else the other
abbrev found_or : {X : Type 0} → Option X → Option X → Option X
found_or None other = other
found_or (Some x) other = Some x

-- the first of a list with one more behind
find-push : {X : Type 0} (p : X → Bool) (xs : List X) (x : X) → find p (xs ++ x ∷ []) ≡ found_or (find p xs) (cond (p x) (Some x) None)
find-push p [] x = refl
find-push p (y ∷ xs) x = elim (cases_Bool (p y)) [
  | inl here ↦ rw here refl
  | inr other ↦ rw other (find-push p xs x)
]

-- a line behind others of which one is of its lane is not found
pub firsts_stay : (firsts : List ToldLane) (one found : ToldLane) → find (is_line_of_lane one.told.lane) firsts ≡ Some found
    → (lane : ℕ) → find (is_line_of_lane lane) firsts ≡ find (is_line_of_lane lane) (firsts ++ one ∷ [])
firsts_stay firsts one found is lane = elim (cases_Bool (one.told.lane == lane)) [
  | inl here ↦
      let it : find (is_line_of_lane lane) firsts ≡ Some found = ap (λ (n : ℕ). find (is_line_of_lane n) firsts) (sym (eqb-true one.told.lane lane here)) ∙ is in
      it ∙ sym (find-push (is_line_of_lane lane) firsts one ∙ ap (λ (o : Option ToldLane). found_or o (cond (is_line_of_lane lane one) (Some one) None)) it)
  | inr other ↦ sym (find-push (is_line_of_lane lane) firsts one ∙ rw other (or_none (find (is_line_of_lane lane) firsts)))
]
  where
    or_none : (o : Option ToldLane) → found_or o None ≡ o
    or_none None = refl
    or_none (Some x) = refl

-- the first lines of lanes, one line further
pub firsts_more : (firsts more lanes : List ToldLane) (i : ℕ) (d : ToldLane) → i < length lanes
    → ((lane : ℕ) → find (is_line_of_lane lane) firsts ≡ find (is_line_of_lane lane) (take i lanes))
    → ((lane : ℕ) → find (is_line_of_lane lane) more ≡ find (is_line_of_lane lane) (firsts ++ get_or lanes i d ∷ []))
    → (lane : ℕ) → find (is_line_of_lane lane) more ≡ find (is_line_of_lane lane) (take (i + 1) lanes)
firsts_more firsts more lanes i d within same kept lane =
    let one : ToldLane = get_or lanes i d in
    kept lane ∙ find-push (is_line_of_lane lane) firsts one
    ∙ ap (λ (o : Option ToldLane). found_or o (cond (is_line_of_lane lane one) (Some one) None)) (same lane)
    ∙ sym (find-push (is_line_of_lane lane) (take i lanes) one) ∙ ap (λ (ls : List ToldLane). find (is_line_of_lane lane) ls) (sym (take_more lanes i d within))
