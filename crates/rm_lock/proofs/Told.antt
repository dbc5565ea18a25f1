-- The greatest number among the pairs that a processor has seen, as it enters, hears, and otherwise stays.
use Rattle.std.proofs.Common.{◌≡◌, ℕ, suc, ◌+◌, ◌≤◌, Bool, Some, List, [], ◌∷◌, ◌++◌, length, refl, sym, ◌∙◌, ap, subst, arith}
use Rattle.std.specs.Prelude.{slice_get, max}
use Rattle.atomic_table.specs.Table.{Me}
use Rattle.atomic_table.specs.Seated.{TableId}
use Rattle.rm_core.specs.declared.event.Heard.TheVariants.{Held}
use Rattle.rm_table.specs.declared.padded_slot.Slot.{Slot}
use Rattle.rm_table.specs.declared.view.View.{View}
use Rattle.rm_table.specs.Meanings.{Meanings, numbered_names}
use Rattle.rm_table.specs.Moves.{Hand, entered_view, informed_view, SeenUpTo}
use Rattle.rm_table.specs.Answers.{AnswersCheck}
use Rattle.rm_lock.specs.Tokens.{TokenState, greatest_pair_number, told_number, IsOutBy, IsReceiptBy}

module _ {L : Type 0} where
  -- of two lists behind each other
  greatest_both : (xs ys : List (ℕ × L)) → greatest_pair_number (xs ++ ys) ≡ max (greatest_pair_number xs) (greatest_pair_number ys)
  greatest_both [] ys = omega arith
  greatest_both (x ∷ xs) ys = let e = greatest_both xs ys in omega arith

  greatest_least : (xs : List (ℕ × L)) (number : ℕ) → ((j x : ℕ) (name : L) → slice_get xs j ≡ Some (x, name) → x ≤ number) → greatest_pair_number xs ≤ number
  greatest_least [] number seen = omega arith
  greatest_least (x ∷ xs) number seen =
      let first = seen 0 x.0 x.1 refl in
      let others = greatest_least xs number (λ j y name at. seen (suc j) y name at) in
      omega arith

  -- the last of a history's names has the greatest number
  greatest_numbered : {T : Type 0} (from : ℕ) (history : List (L × T)) (number : ℕ) → from + length history ≡ number + 1 → from ≤ number → greatest_pair_number (numbered_names from history) ≡ number
  greatest_numbered from [] number counts begun = absurd (omega arith)
  greatest_numbered from (x ∷ []) number counts begun = omega arith
  greatest_numbered from (x ∷ y ∷ ys) number counts begun = let e = greatest_numbered (from + 1) (y ∷ ys) number (omega arith) (omega arith) in omega arith

module _ {E B T L I : Type 0} where
  -- a number that no pair seen is past is at least what the processor was told of
  pub told_at_most : (v : View E B T L I) (number : ℕ) → SeenUpTo v.part number → told_number v ≤ number
  told_at_most v number seen = greatest_least v.part.pairs number seen

  -- the processor has heard a receipt
  told_informed : (v r : View E B T L I) (heard : ℕ) (hand : Hand E B) → IsReceiptBy heard r hand → told_number (informed_view v r) ≡ max (told_number v) r.number
  told_informed v r heard hand is = greatest_both v.part.pairs (numbered_names r.opened r.history) ∙ ap (λ (n : ℕ). max (told_number v) n) (greatest_numbered r.opened r.history r.number is.counts is.begun)

  -- who hears a receipt has been told of the greater of both numbers
  pub told_by : (p r : TokenState E B T L I) (table its_table : TableId) (heard : ℕ) (s0 spent s1 : Me (Slot E B) (View E B T L I)) → record { table_id = table; view = s0.0 } ≡ p → record { table_id = its_table; view = spent.0 } ≡ r → IsReceiptBy heard spent.0 spent.1 → s1 ≡ (informed_view s0.0 spent.0, s0.1)
      → told_number s1.0 ≡ max (told_number p.view) r.view.number
  told_by p r table its_table heard s0 spent s1 p_is r_is receipt then =
      ap (λ (s : Me (Slot E B) (View E B T L I)). told_number s.0) then
      ∙ told_informed s0.0 spent.0 heard spent.1 receipt
      ∙ ap (λ (u : TokenState E B T L I). max (told_number u.view) spent.0.number) p_is
      ∙ ap (λ (u : TokenState E B T L I). max (told_number p.view) u.view.number) r_is

  -- it is out as before
  pub hears : (place number told greater heard : ℕ) (refused : Bool) (s0 spent s1 : Me (Slot E B) (View E B T L I)) → IsOutBy place number told refused s0.0 s0.1 → IsReceiptBy heard spent.0 spent.1 → s1 ≡ (informed_view s0.0 spent.0, s0.1) → greater ≡ max told heard → IsOutBy place number greater refused s1.0 s1.1
  hears place number told greater heard refused s0 spent s1 o receipt then is = subst (λ (s : Me (Slot E B) (View E B T L I)). IsOutBy place number greater refused s.0 s.1) (sym then) (record {
    idle = record { processor = o.idle.processor; out = o.idle.out; unheld = o.idle.unheld; bookless = o.idle.bookless; empty_hand = o.idle.empty_hand };
    place_is = o.place_is;
    number_is = o.number_is;
    refused_is = o.refused_is;
    told_is = told_informed s0.0 spent.0 heard spent.1 receipt ∙ ap (λ (n : ℕ). max n spent.0.number) o.told_is ∙ ap (λ (n : ℕ). max told n) receipt.number_is ∙ sym is;
  })

  module _ (m : Meanings E B T L I) where
    -- the processor is in, with an edition that no pair seen is past
    told_inside : (v : View E B T L I) (e : E) → SeenUpTo v.part (m.number e) → told_number (entered_view m v e) ≡ m.number e
    told_inside v e seen =
        let both = greatest_both v.part.pairs ((m.number e, m.name e) ∷ []) in
        let others = told_at_most v (m.number e) seen in
        omega arith

    -- a processor that came in has been told of its edition's number, and of no greater one
    pub told_in : (s0 s1 s2 : Me (Slot E B) (View E B T L I)) (hand : Hand E B) → AnswersCheck m s0 Held s1 → s2 ≡ (s1.0, hand) → told_number s2.0 ≡ s2.0.part.held
    told_in s0 s1 s2 hand step now = subst (λ (s : Me (Slot E B) (View E B T L I)). told_number s.0 ≡ s.0.part.held) (sym now)
        (ap (λ (s : Me (Slot E B) (View E B T L I)). told_number s.0) step.1 ∙ told_inside s0.0 step.0 step.3 ∙ step.2 ∙ sym (ap (λ (s : Me (Slot E B) (View E B T L I)). s.0.part.held) step.1))
