-- The run that is shortened is the longest, the first of equal ones.
use Rattle.std.proofs.Common.{◌≡◌, ℕ, ◌+◌, ◌<◌, ◌≤◌, zero, suc, Option, Some, None, slice_get, List, [], ◌∷◌, drop, refl, sym, ap, ◌∙◌, arith, inl, inr}
use Rattle.std.proofs.lemmas.Bool.Decides.{eqb_tells, leb_tells}
use Rattle.std.proofs.Math.Nat.{zero-add}
use Rattle.rule_text.specs.Address6Text.{leading_zeros, longest_run, place_of_run}
use Rattle.rule_text.specs.ZeroRuns.{IsZeroRun, FirstLongestRunsAreFound}
use Rattle.rule_text.proofs.ZeroRuns.{run_fits, run_there}

-- the first groups of a list that begins with zeros
zero_at : (groups : List ℕ) (k : ℕ) → k < leading_zeros groups → slice_get groups k ≡ Some 0
unfolding leading_zeros
zero_at [] k inside = absurd (omega (arith, inside))
zero_at (g ∷ groups) zero inside = elim (eqb_tells g 0) [
  | inl h ↦ ap (λ n. Some n) h.1
  | inr h ↦ absurd (omega (arith, rw h.0 at inside))
]
zero_at (g ∷ groups) (suc k) inside = elim (eqb_tells g 0) [
  | inl h ↦ zero_at groups k (omega (arith, rw h.0 at inside))
  | inr h ↦ absurd (omega (arith, rw h.0 at inside))
]

not_there : (n : ℕ) → (let o : Option ℕ = None in o) ≡ Some n → ⊥
not_there n e = cc

same_zero : (n : ℕ) → (let o : Option ℕ = Some n in o) ≡ Some 0 → n ≡ 0
same_zero n e = cc

-- zeros from the front on are among those that the list begins with
zeros_counted : (groups : List ℕ) (count : ℕ) → ((k : ℕ) → k < count → slice_get groups k ≡ Some 0) → count ≤ leading_zeros groups
unfolding leading_zeros
zeros_counted groups zero zeros = omega arith
zeros_counted [] (suc count) zeros = absurd (not_there 0 (zeros 0 (omega arith)))
zeros_counted (g ∷ groups) (suc count) zeros =
    let more : count ≤ leading_zeros groups = zeros_counted groups count (λ k inside. zeros (suc k) (omega (arith, inside))) in
    elim (eqb_tells g 0) [
      | inl h ↦ rw h.0 (omega (arith, more))
      | inr h ↦ absurd (h.1 (same_zero g (zeros 0 (omega arith))))
    ]

suc_plus : (n m : ℕ) → suc n + m ≡ suc (n + m)
suc_plus n m = omega arith

at_drop : (groups : List ℕ) (place k : ℕ) → slice_get groups (place + k) ≡ slice_get (drop place groups) k
at_drop groups zero k = ap (slice_get groups) (zero-add k)
at_drop [] (suc place) k = refl
at_drop (g ∷ groups) (suc place) k = ap (slice_get (g ∷ groups)) (suc_plus place k) ∙ at_drop groups place k

run_counted : (groups : List ℕ) (place count : ℕ) → IsZeroRun groups place count → count ≤ leading_zeros (drop place groups)
run_counted groups place count run = zeros_counted (drop place groups) count (λ k inside. sym (at_drop groups place k) ∙ run.zeros k inside)

-- no run is longer
none_longer : (groups : List ℕ) (place : ℕ) → leading_zeros (drop place groups) ≤ longest_run groups
unfolding longest_run
none_longer [] zero = unfold leading_zeros in omega arith
none_longer [] (suc place) = unfold leading_zeros in omega arith
none_longer (g ∷ groups) zero = omega arith
none_longer (g ∷ groups) (suc place) = let less : leading_zeros (drop place groups) ≤ longest_run groups = none_longer groups place in omega (arith, less)

-- none as long begins before
none_before : (groups : List ℕ) (count place : ℕ) → count ≤ leading_zeros (drop place groups) → place_of_run count groups ≤ place
unfolding place_of_run
none_before [] count place there = omega arith
none_before (g ∷ groups) count zero there = elim (leb_tells count (leading_zeros (g ∷ groups))) [
  | inl h ↦ rw h.0 (omega arith)
  | inr h ↦ absurd (omega (arith, there, h.1))
]
none_before (g ∷ groups) count (suc place) there =
    let less : place_of_run count groups ≤ place = none_before groups count place there in
    elim (leb_tells count (leading_zeros (g ∷ groups))) [
      | inl h ↦ rw h.0 (omega arith)
      | inr h ↦ rw h.0 (omega (arith, less))
    ]

-- the run that is shortened is the longest, the first of equal ones
pub first_longest : FirstLongestRunsAreFound
first_longest groups = record {
  run = record {
    within = run_fits groups;
    zeros = λ k inside. at_drop groups (place_of_run (longest_run groups) groups) k
        ∙ zero_at (drop (place_of_run (longest_run groups) groups) groups) k (omega (arith, inside, run_there (longest_run groups) groups (omega arith)));
  };
  longest = λ other size run. omega (arith, run_counted groups other size run, none_longer groups other);
  first = λ other run. none_before groups (longest_run groups) other (run_counted groups other (longest_run groups) run);
}
