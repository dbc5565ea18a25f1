-- The longest run of zero groups of a list, from that of the list behind its first group.
use Rattle.std.proofs.Common.{◌≡◌, ℕ, ◌+◌, ◌<◌, ◌≤◌, suc, List, [], ◌∷◌, length, drop, refl, arith, inl, inr, subst}
use Rattle.std.proofs.lemmas.Bool.{le-leb, lt-leb}
use Rattle.std.proofs.lemmas.Bool.Decides.{eqb_tells, leb_tells}
use Rattle.rule_text.specs.Address6Text.{leading_zeros, longest_run, place_of_run}

-- the run at the front is the longest, the first of equal ones
pub record IsFrontRun (group : ℕ) (groups : List ℕ) (here : ℕ) : Type 0 where
  pub longest : here ≡ longest_run (group ∷ groups)
  pub front : place_of_run here (group ∷ groups) ≡ 0

-- a run at the front that is as long as each behind it is the longest
pub front_run : (group : ℕ) (groups : List ℕ) (here : ℕ) → here ≡ leading_zeros (group ∷ groups) → longest_run groups ≤ here → IsFrontRun group groups here
unfolding longest_run place_of_run
front_run group groups here zeros least = record {
  longest = rw (← zeros) (omega arith);
  front = let same : here ≤ here = omega arith in rw (← zeros, le-leb here here same) refl;
}

-- a longer one follows
pub record IsBackRun (group : ℕ) (groups : List ℕ) (count : ℕ) : Type 0 where
  pub longest : count ≡ longest_run (group ∷ groups)
  pub behind : place_of_run count (group ∷ groups) ≡ suc (place_of_run count groups)

-- where a run behind the first group is longer than the one at the front, it is the longest
pub back_run : (group : ℕ) (groups : List ℕ) (here count : ℕ) → here ≡ leading_zeros (group ∷ groups) → count ≡ longest_run groups → here < count → IsBackRun group groups count
unfolding longest_run place_of_run
back_run group groups here count zeros longest less = record {
  longest = rw (← zeros, ← longest) (omega arith);
  behind = rw (← zeros, lt-leb count here less) refl;
}

zeros_fit : (groups : List ℕ) → leading_zeros groups ≤ length groups
unfolding leading_zeros
zeros_fit [] = omega arith
zeros_fit (group ∷ groups) =
    let rest : leading_zeros groups ≤ length groups = zeros_fit groups in
    elim (eqb_tells group 0) [ inl h ↦ rw h.0 (omega arith) | inr h ↦ rw h.0 (omega arith) ]

-- the place of the longest run leaves room for it
pub run_fits : (groups : List ℕ) → place_of_run (longest_run groups) groups + longest_run groups ≤ length groups
run_fits [] = unfold place_of_run in unfold longest_run in omega arith
run_fits (group ∷ groups) = elim (leb_tells (longest_run groups) (leading_zeros (group ∷ groups))) [
  | inl h ↦
      let run = front_run group groups (leading_zeros (group ∷ groups)) refl h.1 in
      subst (λ n. place_of_run n (group ∷ groups) + n ≤ length (group ∷ groups)) run.longest (omega (arith, run.front, zeros_fit (group ∷ groups)))
  | inr h ↦
      let run = back_run group groups (leading_zeros (group ∷ groups)) (longest_run groups) refl refl h.1 in
      subst (λ n. place_of_run n (group ∷ groups) + n ≤ length (group ∷ groups)) run.longest (omega (arith, run.behind, run_fits groups))
]

-- so many zeros stand at the place of the first run of so many
pub run_there : (count : ℕ) (groups : List ℕ) → count ≤ longest_run groups → count ≤ leading_zeros (drop (place_of_run count groups) groups)
unfolding longest_run place_of_run
run_there count [] enough = omega (arith, enough)
run_there count (group ∷ groups) enough = elim (leb_tells count (leading_zeros (group ∷ groups))) [
  | inl h ↦ rw h.0 h.1
  | inr h ↦ rw h.0 (run_there count groups (omega (arith, enough, h.1)))
]
