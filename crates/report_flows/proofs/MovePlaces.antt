-- Where moves stand, one move after the other.
use Rattle.std.proofs.Common.{◌≡◌, ◌≢◌, ℕ, ◌+◌, ◌<◌, ◌≤◌, true, false, List, Option, None, Some, length, refl, sym, subst, arith, inl, inr, nat_eq}
use Rattle.std.specs.HashMap.{HashMap, Updates, get}
use Rattle.std.proofs.lemmas.Bool.{cases_Bool, cases_lt, eqb-true, eq-eqb}
use Rattle.report_moves.specs.Spans.{pair_eq}
use Rattle.report_moves.specs.declared.moves.Move.{Move}
use Rattle.report_flows.specs.Counting.{IsPlaceOf, is_move_of, move_at, pair_of}

-- where the move stands among so many, or that it isn't among them
abbrev pub IsPlaceBelow : List Move → ℕ → ℕ → ℕ × ℕ → Option ℕ → Type 0
IsPlaceBelow moves capture at pair None = (place : ℕ) → place < at → is_move_of capture pair (move_at moves place) ≡ false
IsPlaceBelow moves capture at pair (Some place) = (place < at) × (is_move_of capture pair (move_at moves place) ≡ true)

module _ (moves : List Move) (capture at : ℕ) (pair : ℕ × ℕ) where
  -- one move more, which isn't that of the pair
  place_stays : (found : Option ℕ) → IsPlaceBelow moves capture at pair found → is_move_of capture pair (move_at moves at) ≡ false → IsPlaceBelow moves capture (at + 1) pair found
  place_stays None before isn't = λ place within. elim (cases_lt place at) [
    | inl below ↦ before place below
    | inr past ↦ let same : at ≡ place = omega (arith, within, past) in subst (λ n. is_move_of capture pair (move_at moves n) ≡ false) same isn't
  ]
  place_stays (Some place) before isn't = (omega (arith, before.0), before.1)

  -- among all moves
  pub place_of_all : (found : Option ℕ) → length moves ≤ at → at ≤ length moves → IsPlaceBelow moves capture at pair found → IsPlaceOf moves capture pair found
  place_of_all None past within before = λ place below. before place (omega (arith, below, past))
  place_of_all (Some place) past within before = (omega (arith, before.0, within), before.1)

  -- a move of another capture
  pub place_elsewhere : (found : Option ℕ) → (move_at moves at).capture ≢ capture → IsPlaceBelow moves capture at pair found → IsPlaceBelow moves capture (at + 1) pair found
  place_elsewhere found apart before =
      let other : nat_eq (move_at moves at).capture capture ≡ false = elim (cases_Bool (nat_eq (move_at moves at).capture capture)) [
        | inl is ↦ absurd (apart (eqb-true _ _ is))
        | inr isn't ↦ isn't
      ] in
      place_stays found before (rw other refl)

  -- a move of this capture
  pub place_here : {S : Type 0} (old new : HashMap (ℕ × ℕ) ℕ S) → (move_at moves at).capture ≡ capture → Updates pair_eq old new (pair_of (move_at moves at)) (Some at)
      → IsPlaceBelow moves capture at pair (get pair_eq old pair) → IsPlaceBelow moves capture (at + 1) pair (get pair_eq new pair)
  place_here old new here updates before =
      subst (IsPlaceBelow moves capture (at + 1) pair) (sym (updates.0 pair)) (elim (cases_Bool (pair_eq (pair_of (move_at moves at)) pair)) [
        | inl is ↦ rw is (omega arith, rw (eq-eqb (move_at moves at).capture capture here) is)
        | inr isn't ↦ rw isn't (place_stays (get pair_eq old pair) before (rw (eq-eqb (move_at moves at).capture capture here) isn't))
      ])
