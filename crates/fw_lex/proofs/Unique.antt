-- There is one list of a part's longest runs, the one that the scan finds.
use Rattle.std.proofs.Common.{◌≡◌, ℕ, ◌+◌, ◌≤◌, List, [], ◌∷◌, refl, inl, inr, arith, ap, ◌∙◌}
use Rattle.std.proofs.lemmas.Bool.{cases_order}
use Rattle.std.specs.List.{AllByRecursion}
use Rattle.fw_lex.specs.declared.token.Token.{Token}
use Rattle.fw_lex.specs.Words.{tokens_in, IsLongestRun, AreInOrder, IsInSome, AreLongestRuns}
use Rattle.fw_lex.specs.Laws.{LongestRunsAreScanned}
use Rattle.fw_lex.proofs.Longest.{AreRunsFrom, clash, words_are_longest}

-- spans in order from a byte on hold no byte before it
none_before : (part : List ℕ) (k from : ℕ) (tokens : List Token) → AllByRecursion (IsLongestRun part) tokens → AreInOrder from tokens → IsInSome k tokens → from ≤ k
none_before part k from [] each ordered held = absurd held
none_before part k from (t ∷ ts) each ordered (inl here) = omega (arith, ordered.0, here.0)
none_before part k from (t ∷ ts) each ordered (inr behind) =
    let past = none_before part k (t.end + 1) ts each.1 ordered.1 behind in
    omega (arith, ordered.0, each.0.some, past)

-- of two lists of runs neither begins before the other
begins_first : (part : List ℕ) (from : ℕ) (a b : Token) (ones twos : List Token) → AreRunsFrom part from (a ∷ ones) → AreRunsFrom part from (b ∷ twos) → b.start ≤ a.start
begins_first part from a b ones twos first second =
    let run = first.each.0 in
    let held = second.whole a.start first.in_order.0 (omega (arith, run.some, run.inside)) (run.solid a.start (omega arith) run.some) in
    none_before part a.start b.start (b ∷ twos) second.each (omega arith, second.in_order.1) held

-- of two runs that begin at one byte neither ends before the other
ends_first : (part : List ℕ) (a b : Token) → IsLongestRun part a → IsLongestRun part b → a.start ≡ b.start → b.end ≤ a.end
ends_first part a b first second same = elim (cases_order a.end b.end) [
  | inl e ↦ omega (arith, e)
  | inr h ↦ elim h [
    | inl less ↦ clash part a.end a.end refl (first.last (omega (arith, less, second.inside))) (second.solid a.end (omega (arith, same, first.some)) less)
    | inr more ↦ omega (arith, more)
  ]
]

same_token : (a b : Token) → a.start ≡ b.start → a.end ≡ b.end → a ≡ b
same_token a b starts ends = ap (λ s. let t : Token = record { start = s; end = a.end } in t) starts ∙ ap (λ e. let t : Token = record { start = b.start; end = e } in t) ends

-- a byte behind a span and in one of the list is in one behind the span
not_in_first : (k : ℕ) (t : Token) (ts : List Token) → t.end ≤ k → IsInSome k (t ∷ ts) → IsInSome k ts
not_in_first k t ts past (inl here) = absurd (omega (arith, past, here.1))
not_in_first k t ts past (inr behind) = behind

-- the runs behind the first
behind : (part : List ℕ) (from : ℕ) (t : Token) (ts : List Token) → AreRunsFrom part from (t ∷ ts) → AreRunsFrom part (t.end + 1) ts
behind part from t ts runs = record {
  each = runs.each.1;
  in_order = runs.in_order.1;
  whole = λ k low high solid. not_in_first k t ts (omega (arith, low)) (runs.whole k (omega (arith, low, runs.in_order.0, runs.each.0.some)) high solid);
}

-- where no run is, none begins
none_begins : {A : Type 0} (part : List ℕ) (from : ℕ) (t : Token) (ts : List Token) → AreRunsFrom part from [] → AreRunsFrom part from (t ∷ ts) → A
none_begins part from t ts none some =
    let run = some.each.0 in
    absurd (none.whole t.start some.in_order.0 (omega (arith, run.some, run.inside)) (run.solid t.start (omega arith) run.some))

-- from a byte on there is one list of runs
one_list : (part : List ℕ) (from : ℕ) (ones twos : List Token) → AreRunsFrom part from ones → AreRunsFrom part from twos → ones ≡ twos
one_list part from [] [] first second = refl
one_list part from [] (b ∷ twos) first second = none_begins part from b twos first second
one_list part from (a ∷ ones) [] first second = none_begins part from a ones second first
one_list part from (a ∷ ones) (b ∷ twos) first second =
    let starts : a.start ≡ b.start = omega (arith, begins_first part from a b ones twos first second, begins_first part from b a twos ones second first) in
    let ends : a.end ≡ b.end = omega (arith, ends_first part a b first.each.0 second.each.0 starts, ends_first part b a second.each.0 first.each.0 (omega (arith, starts))) in
    let same = same_token a b starts ends in
    let rest = one_list part (a.end + 1) ones twos (behind part from a ones first) (rw (← ends) at (behind part from b twos second)) in
    ap (λ t. t ∷ ones) same ∙ ap (λ ts. b ∷ ts) rest

from_first : (part : List ℕ) (tokens : List Token) → AreLongestRuns part tokens → AreRunsFrom part 0 tokens
from_first part tokens runs = record { each = runs.each; in_order = runs.in_order; whole = λ k low high solid. runs.whole k high solid }

-- whatever are the longest runs is what the scan finds
pub runs_are_scanned : LongestRunsAreScanned
runs_are_scanned part tokens runs = one_list part 0 tokens (tokens_in part) (from_first part tokens runs) (from_first part (tokens_in part) (words_are_longest part))
