-- The words are the longest runs of bytes that aren't blank, all of them, in order.
use Rattle.std.proofs.Common.{◌≡◌, ℕ, ◌+◌, ◌-◌, ◌<◌, ◌≤◌, zero, suc, Bool, true, false, Some, None, List, [], ◌∷◌, length, drop, get_or, refl, inl, inr, arith, sym, subst}
use Rattle.std.proofs.Math.Seq.{drop-length}
use Rattle.std.proofs.lemmas.Bool.{cases_order}
use Rattle.std.specs.List.{AllByRecursion}
use Rattle.fw_lex.specs.declared.token.Token.{Token}
use Rattle.fw_lex.specs.Words.{tokens_from, tokens_in, is_blank, IsLongestRun, AreInOrder, IsInSome}
use Rattle.fw_lex.specs.Laws.{ScannedAreLongestRuns}
use Rattle.fw_lex.proofs.Steps.{closed-blank, closed-solid, open-blank, open-solid}

-- the same as AreLongestRuns, from a byte on
pub record AreRunsFrom (part : List ℕ) (from : ℕ) (tokens : List Token) : Type 0 where
  pub each : AllByRecursion (IsLongestRun part) tokens
  pub in_order : AreInOrder from tokens
  pub whole : (k : ℕ) → from ≤ k → k < length part → is_blank (get_or part k 0) ≡ false → IsInSome k tokens

-- the bytes from start up to i aren't blank, and the one before them is
record IsOpen (part : List ℕ) (start i : ℕ) : Type 0 where
  some : start < i
  solid : (k : ℕ) → start ≤ k → k < i → is_blank (get_or part k 0) ≡ false
  first : 0 < start → is_blank (get_or part (start - 1) 0) ≡ true

earlier : (from to : ℕ) (tokens : List Token) → from ≤ to → AreInOrder to tokens → AreInOrder from tokens
earlier from to [] h ordered = tt
earlier from to (t ∷ ts) h ordered = (omega (arith, ordered.0), ordered.1)

-- k is i, or is not
data Place (k i : ℕ) : Type 0 where
  below : k < i → Place k i
  same : k ≡ i → Place k i
  above : i < k → Place k i

place : (k i : ℕ) → Place k i
place k i = elim (cases_order k i) [ inl e ↦ same e | inr h ↦ elim h [ inl g ↦ below g | inr g ↦ above g ] ]

-- a byte is not both blank and not
pub clash : {A : Type 0} (part : List ℕ) (k i : ℕ) → k ≡ i → is_blank (get_or part i 0) ≡ true → is_blank (get_or part k 0) ≡ false → A
clash part k i here blank solid = cc

finished : (part : List ℕ) (start i : ℕ) → i ≡ length part → IsOpen part start i → AreRunsFrom part start (record { start = start; end = i } ∷ [])
finished part start i done open_run = record {
  each = (record { some = open_run.some; inside = omega arith; solid = open_run.solid; first = open_run.first; last = λ h. absurd (omega arith) }, tt);
  in_order = (omega arith, tt);
  whole = λ k low high solid. inl (low, omega arith);
}

nothing : (part : List ℕ) (i : ℕ) → i ≡ length part → AreRunsFrom part i []
nothing part i done = record { each = tt; in_order = tt; whole = λ k low high solid. absurd (omega arith) }

skipped : (part : List ℕ) (i : ℕ) (tokens : List Token) → is_blank (get_or part i 0) ≡ true → AreRunsFrom part (i + 1) tokens → AreRunsFrom part i tokens
skipped part i tokens blank rest = record {
  each = rest.each;
  in_order = earlier i (i + 1) tokens (omega arith) rest.in_order;
  whole = λ k low high solid. elim (place k i) [
    | below h ↦ absurd (omega arith)
    | same e ↦ clash part k i e blank solid
    | above h ↦ rest.whole k (omega arith) high solid
  ];
}

closes : (part : List ℕ) (start i : ℕ) (tokens : List Token) → i < length part → is_blank (get_or part i 0) ≡ true → IsOpen part start i → AreRunsFrom part (i + 1) tokens → AreRunsFrom part start (record { start = start; end = i } ∷ tokens)
closes part start i tokens inside blank open_run rest = record {
  each = (record { some = open_run.some; inside = omega arith; solid = open_run.solid; first = open_run.first; last = λ _. blank }, rest.each);
  in_order = (omega arith, rest.in_order);
  whole = λ k low high solid. elim (place k i) [
    | below h ↦ inl (low, h)
    | same e ↦ clash part k i e blank solid
    | above h ↦ inr (rest.whole k (omega arith) high solid)
  ];
}

longer : (part : List ℕ) (start i : ℕ) → is_blank (get_or part i 0) ≡ false → IsOpen part start i → IsOpen part start (i + 1)
longer part start i solid open_run = record {
  some = omega arith;
  solid = λ k low high. elim (place k i) [
    | below h ↦ open_run.solid k low h
    | same e ↦ subst (λ (x : ℕ). is_blank (get_or part x 0) ≡ false) (sym e) solid
    | above h ↦ absurd (omega arith)
  ];
  first = open_run.first;
}

begins : (part : List ℕ) (i : ℕ) → is_blank (get_or part i 0) ≡ false → (0 < i → is_blank (get_or part (i - 1) 0) ≡ true) → IsOpen part i (i + 1)
begins part i solid before = record {
  some = omega arith;
  solid = λ k low high. (let e : i ≡ k = omega arith in subst (λ (x : ℕ). is_blank (get_or part x 0) ≡ false) e solid);
  first = before;
}

-- what is known before the byte at i, with and without an open word
record AreRunsAt (part : List ℕ) (i : ℕ) : Type 0 where
  closed : (0 < i → is_blank (get_or part (i - 1) 0) ≡ true) → AreRunsFrom part i (tokens_from None i (drop i part))
  opened : (start : ℕ) → IsOpen part start i → AreRunsFrom part start (tokens_from (Some start) i (drop i part))

at_end : (part : List ℕ) (i : ℕ) → i ≡ length part → AreRunsAt part i
unfolding tokens_from
at_end part i done = record {
  closed = λ _. rw (done, drop-length part) (nothing part (length part) refl);
  opened = λ start open_run. rw (done, drop-length part) (finished part start (length part) refl (rw done at open_run));
}

step : (part : List ℕ) (i : ℕ) (b : Bool) → i < length part → is_blank (get_or part i 0) ≡ b → AreRunsAt part (i + 1) → AreRunsAt part i
step part i true inside blank next = record {
  closed = λ _. rw (closed-blank part i inside blank) (skipped part i _ blank (next.closed (λ _. let back : i + 1 - 1 ≡ i = omega arith in rw back blank)));
  opened = λ start open_run. rw (open-blank part i start inside blank) (closes part start i _ inside blank open_run (next.closed (λ _. let back : i + 1 - 1 ≡ i = omega arith in rw back blank)));
}
step part i false inside solid next = record {
  closed = λ before. rw (closed-solid part i inside solid) (next.opened i (begins part i solid before));
  opened = λ start open_run. rw (open-solid part i start inside solid) (next.opened start (longer part start i solid open_run));
}

runs_at : (n : ℕ) (part : List ℕ) (i : ℕ) → n + i ≡ length part → AreRunsAt part i
runs_at zero part i e = at_end part i (omega (arith, e))
runs_at (suc n) part i e = step part i (is_blank (get_or part i 0)) (omega (arith, e)) refl (runs_at n part (i + 1) (omega (arith, e)))

-- the words of a line are its longest runs of bytes that aren't blank, all of them in order
pub words_are_longest : ScannedAreLongestRuns
unfolding tokens_in
words_are_longest part =
    let runs : AreRunsFrom part 0 (tokens_from None 0 part) = (runs_at (length part) part 0 (omega arith)).closed (λ h. absurd (omega arith)) in
    record { each = runs.each; in_order = runs.in_order; whole = λ k high solid. runs.whole k (omega arith) high solid }
