-- The slots at home, where one is taken or given.
use Rattle.std.proofs.Common.{◌≡◌, ◌≢◌, ℕ, ◌<◌, ◌≤◌, ◌⊎◌, true, Some, List, length-set, sym, ◌∙◌, ap, arith, subst, ⊎_elim}
use Rattle.std.specs.Prelude.{slice_set}
use mathlib.Core.Option as at
use lib.ListN.{get_elem?}
use Rattle.atomic_table.proofs.Lists.{at_set}
use Rattle.rm_core.specs.declared.processor_state.Phase.TheVariants.{In}
use Rattle.rm_core.specs.declared.processor_state.ProcessorState.{ProcessorState}
use Rattle.rm_table.specs.declared.padded_slot.Slot.{Slot}
use Rattle.rm_table.specs.declared.padded_slot.Slot.TheVariants.{Edition, Book}
use Rattle.rm_table.specs.Meanings.{Meanings}
use Rattle.rm_table.specs.Rule.{Current, Slots}
use Rattle.rm_table.proofs.Base.{get_there}

-- a processor that may be away from its slot
abbrev pub IsAway : ProcessorState → Type 0
IsAway p = (p.phase ≡ In) ⊎ (p.drained ≡ true)

module _ {E B T L I : Type 0} (m : Meanings E B T L I) {number n : ℕ} {state : ℕ → ProcessorState} {name : L} {tag : T} {holder : ℕ} {book : B} {homes : List (at.Option (Slot E B))} where
  -- nothing is taken or given, and who was away still may be
  pub slots_stay : (state' : ℕ → ProcessorState) → ((k : ℕ) → IsAway (state k) → IsAway (state' k)) → Slots m number n state name tag holder book homes → Slots m number n state' name tag holder book homes
  slots_stay state' away s = record {
    size = s.size;
    home = s.home;
    away = λ k low high is. away k (s.away k low high is);
    book_home = s.book_home;
    book_away = s.book_away;
  }

  -- slot p is taken
  pub slots_take : (state' : ℕ → ProcessorState) (p : ℕ) → 0 < p → IsAway (state' p) → ((k : ℕ) → k ≢ p → IsAway (state k) → IsAway (state' k)) → Slots m number n state name tag holder book homes → Slots m number n state' name tag holder book (slice_set homes p at.none)
  slots_take state' p above here others s = record {
    size = length-set homes p at.none ∙ s.size;
    home = λ k y low high is. ⊎_elim (λ same. absurd (at.some-ne-none y (sym same.1))) (λ other. s.home k y low high other.1) (at_set homes p k at.none (at.some y) is);
    away = λ k low high is. ⊎_elim (λ same. subst (λ (j : ℕ). IsAway (state' j)) (sym same.0) here) (λ other. others k other.0 (s.away k low high other.1)) (at_set homes p k at.none at.none is);
    book_home = λ y is. ⊎_elim (λ same. absurd (at.some-ne-none y (sym same.1))) (λ other. s.book_home y other.1) (at_set homes p 0 at.none (at.some y) is);
    book_away = λ is. ⊎_elim (λ same. let e = same.0 in absurd (omega arith)) (λ other. s.book_away other.1) (at_set homes p 0 at.none at.none is);
  }

  -- a published edition is given to slot p
  pub slots_give : (state' : ℕ → ProcessorState) (p : ℕ) (e : E) → 0 < p → Current m number name tag e → ((k : ℕ) → k ≢ p → IsAway (state k) → IsAway (state' k)) → Slots m number n state name tag holder book homes → Slots m number n state' name tag holder book (slice_set homes p (at.some (Edition (Some e))))
  slots_give state' p e above current others s = record {
    size = length-set homes p (at.some (Edition (Some e))) ∙ s.size;
    home = λ k y low high is. ⊎_elim (λ same. (e, at.some-injective y (Edition (Some e)) (sym same.1), current)) (λ other. s.home k y low high other.1) (at_set homes p k (at.some (Edition (Some e))) (at.some y) is);
    away = λ k low high is. ⊎_elim (λ same. absurd (at.some-ne-none (Edition (Some e)) same.1)) (λ other. others k other.0 (s.away k low high other.1)) (at_set homes p k (at.some (Edition (Some e))) at.none is);
    book_home = λ y is. ⊎_elim (λ same. let clash = same.0 in absurd (omega arith)) (λ other. s.book_home y other.1) (at_set homes p 0 (at.some (Edition (Some e))) (at.some y) is);
    book_away = λ is. ⊎_elim (λ same. absurd (at.some-ne-none (Edition (Some e)) same.1)) (λ other. s.book_away other.1) (at_set homes p 0 (at.some (Edition (Some e))) at.none is);
  }

  -- who can't be away has its edition at home
  pub at_home : (p : ℕ) → 0 < p → p ≤ n → (IsAway (state p) → ⊥) → Slots m number n state name tag holder book homes → (e : E) × (get_elem? homes p ≡ at.some (at.some (Edition (Some e)))) × Current m number name tag e
  at_home p above within here s =
      let h : (x : at.Option (Slot E B)) × (get_elem? homes p ≡ at.some x) = get_there homes p (let e = s.size in omega arith) in
      by_home h.0 h.1
    where
      by_home : (x : at.Option (Slot E B)) → get_elem? homes p ≡ at.some x → (e : E) × (get_elem? homes p ≡ at.some (at.some (Edition (Some e)))) × Current m number name tag e
      by_home at.none is = absurd (here (s.away p above within is))
      by_home (at.some y) is =
          let got = s.home p y above within is in
          (got.0, is ∙ ap (λ (z : Slot E B). at.some (at.some z)) got.1, got.2)

  -- where nobody has the book it is at home
  pub book_at_home : holder ≡ 0 → Slots m number n state name tag holder book homes → get_elem? homes 0 ≡ at.some (at.some (Book (Some book)))
  book_at_home free s =
      let h : (x : at.Option (Slot E B)) × (get_elem? homes 0 ≡ at.some x) = get_there homes 0 (let e = s.size in omega arith) in
      by_home h.0 h.1
    where
      by_home : (x : at.Option (Slot E B)) → get_elem? homes 0 ≡ at.some x → get_elem? homes 0 ≡ at.some (at.some (Book (Some book)))
      by_home at.none is = absurd (s.book_away is free)
      by_home (at.some y) is = is ∙ ap (λ (z : Slot E B). at.some (at.some z)) (s.book_home y is)
