-- How often something is in a list that is mapped, where first and where last.
use Rattle.std.proofs.Common.{◌≡◌, ◌≢◌, ℕ, ◌&&◌, Bool, true, false, not, cond, List, [], ◌∷◌, ◌++◌, refl, sym, ap, ◌∙◌, reverse, map, inl, inr, nat_eq}
use Rattle.std.specs.Prelude.{count_by}
use Rattle.std.specs.List.{list_any, position_or_len, prefix_len, suffix_len, zip}
use Rattle.std.proofs.lemmas.Bool.{cases_Bool, eqb-true}
use Rattle.std.proofs.lemmas.List.{map-append, length-map, reverse-append}
use Rattle.std.proofs.lemmas.List.Sums.{sum_by-cons}
use Rattle.report_moves.specs.Spans.{pair_eq, span_of}
use Rattle.report_moves.specs.Moves.{NothingMovesOfItself, MovesTurnRound}

module _ {X Y : Type 0} (f : X → Y) where
  reverse_map : (xs : List X) → reverse (map f xs) ≡ map f (reverse xs)
  reverse_map [] = refl
  reverse_map (x ∷ xs) =
      reverse-append (f x ∷ []) (map f xs) ∙ ap (λ ys. ys ++ (f x ∷ [])) (reverse_map xs)
      ∙ sym (map-append f (reverse xs) (x ∷ [])) ∙ ap (map f) (sym (reverse-append (x ∷ []) xs))

  module _ (test : X → Bool) (other : Y → Bool) (alike : (x : X) → test x ≡ other (f x)) where
    any_map : (xs : List X) → list_any test xs ≡ list_any other (map f xs)
    any_map [] = refl
    any_map (x ∷ xs) = rw (alike x, any_map xs) refl

    prefix_map : (xs : List X) → prefix_len test xs ≡ prefix_len other (map f xs)
    prefix_map [] = refl
    prefix_map (x ∷ xs) = rw (alike x, prefix_map xs) refl

    pub count_map : (xs : List X) → count_by test xs ≡ count_by other (map f xs)
    count_map [] = refl
    count_map (x ∷ xs) =
        sum_by-cons (λ x. cond (test x) 1 0) x xs ∙ rw (alike x, count_map xs) (sym (sum_by-cons (λ y. cond (other y) 1 0) (f x) (map f xs)))

  -- the span of a list is that of what it is mapped to, where the tests answer alike
  span_map : (test : X → Bool) (other : Y → Bool) → ((x : X) → test x ≡ other (f x)) → (xs : List X) → span_of test xs ≡ span_of other (map f xs)
  unfolding span_of
  span_map test other alike xs =
      let nots : (x : X) → not (test x) ≡ not (other (f x)) = λ x. ap not (alike x) in
      let ends : suffix_len (λ x. not (test x)) xs ≡ suffix_len (λ y. not (other y)) (map f xs) =
      prefix_map (λ x. not (test x)) (λ y. not (other y)) nots (reverse xs) ∙ ap (prefix_len (λ y. not (other y))) (sym (reverse_map xs))
      in
      let starts : position_or_len test xs ≡ position_or_len other (map f xs) = prefix_map (λ x. not (test x)) (λ y. not (other y)) nots xs in
      rw (any_map test other alike xs, count_map test other alike xs, starts, ends, sym (length-map xs f)) refl

turned : ℕ × ℕ → ℕ × ℕ
turned pair = (pair.1, pair.0)

zip_turned : (old new : List ℕ) → zip new old ≡ map turned (zip old new)
unfolding turned
zip_turned [] [] = refl
zip_turned [] (y ∷ new) = refl
zip_turned (x ∷ old) [] = refl
zip_turned (x ∷ old) (y ∷ new) = ap (λ pairs. (y, x) ∷ pairs) (zip_turned old new)

and_turned : (a b : Bool) → (a && b) ≡ (b && a)
and_turned true true = refl
and_turned true false = refl
and_turned false true = refl
and_turned false false = refl

-- turned round, a pair is met as often, first and last where it was
pub turns_round : MovesTurnRound
unfolding turned
turns_round was is_now old new =
    span_map turned (pair_eq (was, is_now)) (pair_eq (is_now, was)) (λ pair. and_turned (nat_eq was pair.0) (nat_eq is_now pair.1)) (zip old new)
    ∙ ap (span_of (pair_eq (is_now, was))) (sym (zip_turned old new))

none_of_itself : (was is_now : ℕ) → was ≢ is_now → (outcomes : List ℕ) → list_any (pair_eq (was, is_now)) (zip outcomes outcomes) ≡ false
none_of_itself was is_now apart [] = refl
none_of_itself was is_now apart (outcome ∷ outcomes) = elim (cases_Bool (nat_eq was outcome)) [
  | inl one ↦ elim (cases_Bool (nat_eq is_now outcome)) [
    | inl two ↦ absurd (apart (eqb-true _ _ one ∙ sym (eqb-true _ _ two)))
    | inr isn't ↦ rw (one, isn't) (none_of_itself was is_now apart outcomes)
  ]
  | inr isn't ↦ rw isn't (none_of_itself was is_now apart outcomes)
]

-- beside itself a list has no pair of two different outcomes
pub nothing_moves : NothingMovesOfItself
unfolding span_of
nothing_moves was is_now outcomes apart = rw (none_of_itself was is_now apart outcomes) refl
