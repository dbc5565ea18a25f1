-- How far a text is met, piece by piece.
use Rattle.std.proofs.Common.{◌≡◌, ℕ, suc, ◌+◌, ◌<◌, ◌≤◌, ◌==◌, Bool, true, false, Some, None, List, [], ◌∷◌, ◌++◌, length, take, drop, nat_eq, refl, sym, ap, ◌∙◌, inl, inr, arith, append_assoc}
use Rattle.std.specs.List.{common_prefix_len}
use Rattle.std.proofs.Math.Seq.{take-add}
use Rattle.std.proofs.lemmas.Bool.{cases_Bool, eqb-true}
use Rattle.std.proofs.lemmas.List.{append-nil, drop_all, length-drop, drop-drop}
use Rattle.run_audit.specs.Comparison.{line_behind, line_of_first_other, line_ends}
use Rattle.run_audit.specs.Meeting.{difference_from, IsMet}
use Rattle.run_audit.proofs.Counts.{ends-append}

-- how many bytes two texts share
abbrev pub shared : List ℕ → List ℕ → ℕ
shared first second = common_prefix_len nat_eq first second

behind_is : (byte line : ℕ) (bytes : List ℕ) → line_behind byte line + line_ends bytes ≡ line + line_ends (byte ∷ bytes)
unfolding line_ends
behind_is byte line bytes = elim (cases_Bool (byte == 10)) [
  | inl is ↦ rw is (omega arith)
  | inr other ↦ rw other refl
]

next : (n : ℕ) → 1 + n ≡ suc n
next n = omega arith

no_ends : (line : ℕ) (text : List ℕ) → line ≡ line + line_ends (take 0 text)
unfolding line_ends
no_ends line text = omega arith

-- where all bytes are shared, the difference comes behind them
on_whole : (bytes rest more : List ℕ) (line : ℕ) → shared bytes rest ≡ length bytes
    → line_of_first_other line (bytes ++ more) rest ≡ line_of_first_other (line + line_ends (take (length bytes) rest)) more (drop (length bytes) rest)
unfolding line_of_first_other
on_whole [] rest more line is = ap (λ n. line_of_first_other n more rest) (no_ends line rest)
on_whole (byte ∷ bytes) [] more line is = absurd (omega (arith, is))
on_whole (byte ∷ bytes) (other ∷ rest) more line is = elim (cases_Bool (byte == other)) [
  | inl same ↦
      let long = rw same at is in
      let inner : shared bytes rest ≡ length bytes = omega (arith, long) in
      let equal : other ≡ byte = sym (eqb-true byte other same) in
      rw (same, equal) (on_whole bytes rest more (line_behind byte line) inner
      ∙ ap (λ n. line_of_first_other n more (drop (length bytes) rest)) (behind_is byte line (take (length bytes) rest)))
  | inr differ ↦
      let none = rw differ at is in
      absurd (omega (arith, none))
]

-- where one isn't shared, the difference is there
on_other : (bytes rest more : List ℕ) (line : ℕ) → shared bytes rest < length bytes
    → line_of_first_other line (bytes ++ more) rest ≡ Some (line + line_ends (take (shared bytes rest) rest))
unfolding line_of_first_other
on_other [] rest more line less = absurd (omega (arith, less))
on_other (byte ∷ bytes) [] more line less = ap Some (no_ends line [])
on_other (byte ∷ bytes) (other ∷ rest) more line less = elim (cases_Bool (byte == other)) [
  | inl same ↦
      let long = rw same at less in
      let inner : shared bytes rest < length bytes = omega (arith, long) in
      let equal : other ≡ byte = sym (eqb-true byte other same) in
      let long_is : 1 + shared bytes rest ≡ suc (shared bytes rest) = next (shared bytes rest) in
      rw (same, long_is, equal) (on_other bytes rest more (line_behind byte line) inner
      ∙ ap Some (behind_is byte line (take (shared bytes rest) rest)))
  | inr differ ↦ rw differ (ap Some (no_ends line (other ∷ rest)))
]

-- nothing was written
pub met_none : (text : List ℕ) → IsMet text [] 0 false
met_none text = record {
  within = omega arith;
  same = λ more. ap (λ n. line_of_first_other n more text) (no_ends 1 text);
}

-- a difference that was met stays
pub met_other : (text written bytes : List ℕ) (met : ℕ) → IsMet text written met true → IsMet text (written ++ bytes) met true
met_other text written bytes met was = record {
  within = was.within;
  same = λ more. ap (λ t. line_of_first_other 1 t text) (append_assoc written bytes more) ∙ was.same (bytes ++ more);
}

met_within : (text bytes : List ℕ) (met : ℕ) → met ≤ length text → shared bytes (drop met text) ≤ length (drop met text) → met + shared bytes (drop met text) ≤ length text
met_within text bytes met within low = omega (arith, within, low, length-drop met text)

-- a byte that isn't shared is a difference
pub met_difference : (text written bytes : List ℕ) (met : ℕ) → shared bytes (drop met text) ≤ length (drop met text) → shared bytes (drop met text) < length bytes
    → IsMet text written met false → IsMet text (written ++ bytes) (met + shared bytes (drop met text)) true
met_difference text written bytes met low less was =
    let n : ℕ = shared bytes (drop met text) in
    let ends : line_ends (take (met + n) text) ≡ line_ends (take met text) + line_ends (take n (drop met text)) =
    ap line_ends (take-add met n text) ∙ ends-append (take met text) (take n (drop met text)) in
    let line : 1 + line_ends (take met text) + line_ends (take n (drop met text)) ≡ 1 + line_ends (take (met + n) text) = omega (arith, ends) in
    record {
      within = met_within text bytes met was.within low;
      same = λ more. ap (λ t. line_of_first_other 1 t text) (append_assoc written bytes more) ∙ was.same (bytes ++ more)
          ∙ on_other bytes (drop met text) more (1 + line_ends (take met text)) less ∙ ap Some line;
    }

-- where all bytes are shared, the text is met further
pub met_further : (text written bytes : List ℕ) (met : ℕ) → shared bytes (drop met text) ≤ length (drop met text) → shared bytes (drop met text) ≡ length bytes
    → IsMet text written met false → IsMet text (written ++ bytes) (met + shared bytes (drop met text)) false
met_further text written bytes met low whole was =
    let n : ℕ = length bytes in
    let ends : line_ends (take (met + n) text) ≡ line_ends (take met text) + line_ends (take n (drop met text)) =
    ap line_ends (take-add met n text) ∙ ends-append (take met text) (take n (drop met text)) in
    let line : 1 + line_ends (take met text) + line_ends (take n (drop met text)) ≡ 1 + line_ends (take (met + n) text) = omega (arith, ends) in
    record {
      within = met_within text bytes met was.within low;
      same = λ more. rw whole (ap (λ t. line_of_first_other 1 t text) (append_assoc written bytes more) ∙ was.same (bytes ++ more)
          ∙ on_whole bytes (drop met text) more (1 + line_ends (take met text)) whole
          ∙ ap (λ k. line_of_first_other k more (drop n (drop met text))) line
          ∙ ap (λ t. line_of_first_other (1 + line_ends (take (met + n) text)) more t) (drop-drop n met text));
    }

ended : (text written : List ℕ) (met : ℕ) (other : Bool) → IsMet text written met other
    → line_of_first_other 1 written text ≡ difference_from other (1 + line_ends (take met text)) [] (drop met text)
ended text written met other was = sym (ap (λ t. line_of_first_other 1 t text) (append-nil written)) ∙ was.same []

-- a difference was met
pub told_other : (text written : List ℕ) (met : ℕ) → IsMet text written met true → Some (1 + line_ends (take met text)) ≡ line_of_first_other 1 written text
told_other text written met was = sym (ended text written met true was)

left_is : (line : ℕ) (rest : List ℕ) → 0 < length rest → Some line ≡ line_of_first_other line [] rest
unfolding line_of_first_other
left_is line [] some = absurd (omega (arith, some))
left_is line (byte ∷ rest) some = refl

-- the text goes on
pub told_left : (text written : List ℕ) (met : ℕ) → met < length text → IsMet text written met false
    → Some (1 + line_ends (take met text)) ≡ line_of_first_other 1 written text
told_left text written met less was =
    left_is (1 + line_ends (take met text)) (drop met text) (omega (arith, less, length-drop met text)) ∙ sym (ended text written met false was)

none_is : (line : ℕ) → None ≡ line_of_first_other line [] []
unfolding line_of_first_other
none_is line = refl

-- the text was written
pub told_whole : (text written : List ℕ) (met : ℕ) → length text ≤ met → IsMet text written met false → None ≡ line_of_first_other 1 written text
told_whole text written met done was =
    none_is (1 + line_ends (take met text))
    ∙ sym (ended text written met false was ∙ ap (λ t. line_of_first_other (1 + line_ends (take met text)) [] t) (drop_all met text done))
