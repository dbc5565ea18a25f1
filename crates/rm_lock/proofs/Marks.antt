-- A write's beginning: the tokens are revoked one by one, and the processors found out one by one.
use Rattle.std.proofs.Common.{◌≡◌, inl, inr, ℕ, zero, suc, ◌+◌, ◌-◌, ◌<◌, ◌≤◌, true, false, Some, List, [], ◌∷◌, ◌++◌, append_assoc, length, length-set, refl, sym, ◌∙◌, ap, subst, arith}
use Rattle.std.specs.Prelude.{slice_get}
use Rattle.std.proofs.lemmas.Bool.Decides.{eqb_tells}
use Rattle.std.proofs.lemmas.List.{get_or-set_same, get_or-set_other}
use Rattle.atomic_table.specs.Table.{Me}
use Rattle.rm_table.specs.declared.padded_slot.Slot.{Slot}
use Rattle.rm_table.specs.declared.padded_slot.Slot.TheVariants.{Edition}
use Rattle.rm_table.specs.declared.view.View.{View}
use Rattle.rm_table.specs.Layout.{tracker_index, token_index}
use Rattle.rm_table.specs.Meanings.{Meanings, values_from}
use Rattle.rm_table.specs.Moves.{with_step, revoked_view, drained_view, is_revoked, is_drained, editions_from, IsOperator, IsLast, NoneDrained}
use Rattle.rm_table.proofs.Base.{pushed_values}
use Rattle.rm_lock.specs.Calls.{with_loads, with_looks, waited_view, WaitsForProcessor}
use Rattle.rm_lock.specs.Writes.{unmarked_view, HasFoundAll}

module _ {E B T L I : Type 0} where
  -- since `old`, the tokens of the places below `next` were revoked
  pub record Revoking (next : ℕ) (old s : Me (Slot E B) (View E B T L I)) : Type 0 where
    pub operator : IsOperator s.0
    pub same : unmarked_view s.0 ≡ unmarked_view old.0
    pub hand : s.1 ≡ old.1
    pub drained : s.0.drained ≡ old.0.drained
    pub size : length s.0.revoked ≡ length old.0.revoked
    pub below : (k : ℕ) → 0 < k → k < next → is_revoked s.0 k ≡ true
    pub beyond : (k : ℕ) → next ≤ k → k ≤ old.0.count → is_revoked s.0 k ≡ false
    pub stores : List (ℕ × ℕ)
    pub stores_are : stores ≡ values_from (λ place. (token_index old.0.count place, old.0.number + 1)) 1 (next - 1)
    pub steps : s.0.steps ≡ old.0.steps ++ stores

  -- one more
  pub revoking_one : (next : ℕ) (old s new : Me (Slot E B) (View E B T L I)) → new ≡ (with_step (revoked_view s.0 next) (token_index s.0.count next) (s.0.number + 1), s.1) → 0 < next → next < length old.0.revoked → Revoking next old s → Revoking (next + 1) old new
  revoking_one next old s new e above within r = subst (λ (z : Me (Slot E B) (View E B T L I)). Revoking (next + 1) old z) (sym e) (record {
    operator = record { role = r.operator.role; split = r.operator.split };
    same = r.same;
    hand = r.hand;
    drained = r.drained;
    size = length-set s.0.revoked next true ∙ r.size;
    below = λ k low high. elim (eqb_tells k next) as (λ _. is_revoked (revoked_view s.0 next) k ≡ true) [
      | inl is ↦ ap (λ (j : ℕ). is_revoked (revoked_view s.0 next) j) is.1 ∙ get_or-set_same s.0.revoked next true false (let size = r.size in omega arith)
      | inr other ↦ get_or-set_other s.0.revoked next k true false other.1 ∙ r.below k low (let d = other.1 in omega arith)
    ];
    beyond = λ k low high. get_or-set_other s.0.revoked next k true false (λ is. absurd (omega arith)) ∙ r.beyond k (omega arith) high;
    stores = r.stores ++ (token_index s.0.count next, s.0.number + 1) ∷ [];
    stores_are = pushed_values (λ place. (token_index old.0.count place, old.0.number + 1)) r.stores next (token_index s.0.count next, s.0.number + 1) above r.stores_are (ap (λ (v : View E B T L I). (token_index v.count next, v.number + 1)) r.same);
    steps = ap (λ (ts : List (ℕ × ℕ)). ts ++ (token_index s.0.count next, s.0.number + 1) ∷ []) r.steps ∙ append_assoc old.0.steps r.stores ((token_index s.0.count next, s.0.number + 1) ∷ []);
  })

  module _ (m : Meanings E B T L I) where
    -- since `old`, the processors of the places above `place` were found out
    pub record Draining (place : ℕ) (old s : Me (Slot E B) (View E B T L I)) : Type 0 where
      pub operator : IsOperator s.0
      pub same : unmarked_view s.0 ≡ unmarked_view old.0
      pub revoked : s.0.revoked ≡ old.0.revoked
      pub size : length s.0.drained ≡ length old.0.drained
      pub above : (k : ℕ) → place < k → k ≤ old.0.count → is_drained s.0 k ≡ true
      pub rest_of : (k : ℕ) → 0 < k → k ≤ place → is_drained s.0 k ≡ false
      pub editions : List E
      pub hand_is : s.1 ≡ editions_from (place + 1) editions []
      pub number : length editions + place ≡ old.0.count
      pub looks : List (List ℕ × ℕ)
      pub looks_count : length looks + place ≡ old.0.count
      pub steps : s.0.steps ≡ with_looks old.0.steps (place + 1) looks
      pub olds : (j : ℕ) (e : E) → slice_get editions j ≡ Some e → (m.number e ≡ old.0.number) × IsLast old.0 (m.name e) (m.tag e)

    -- before the first look no processor was found out
    pub draining_none : (place : ℕ) (old : Me (Slot E B) (View E B T L I)) → IsOperator old.0 → NoneDrained old.0 → place ≡ old.0.count → old.1 ≡ [] → Draining place old old
    draining_none place old o none all empty = record {
      operator = o;
      same = refl;
      revoked = refl;
      size = refl;
      above = λ k low high. absurd (omega arith);
      rest_of = λ k low high. none k low (omega arith);
      editions = [];
      hand_is = empty;
      number = omega (arith, all);
      looks = [];
      looks_count = omega (arith, all);
      steps = refl;
      olds = λ j e at. absurd cc;
    }

    draining_step : (place found : ℕ) (others : List ℕ) (e : E) (old s : Me (Slot E B) (View E B T L I)) → place + 1 < length old.0.drained → m.number e ≡ s.0.number → IsLast s.0 (m.name e) (m.tag e) → Draining (place + 1) old s
        → Draining place old (with_step (drained_view (waited_view s.0 (tracker_index (place + 1)) others) (place + 1)) (tracker_index (place + 1)) found, (place + 1, Edition (Some e)) ∷ s.1)
    draining_step place found others e old s within number last d = record {
      operator = record { role = d.operator.role; split = d.operator.split };
      same = d.same;
      revoked = d.revoked;
      size = length-set s.0.drained (place + 1) true ∙ d.size;
      above = λ k low high. elim (eqb_tells k (place + 1)) as (λ _. is_drained (drained_view s.0 (place + 1)) k ≡ true) [
        | inl is ↦ ap (λ (j : ℕ). is_drained (drained_view s.0 (place + 1)) j) is.1 ∙ get_or-set_same s.0.drained (place + 1) true false (let size = d.size in omega arith)
        | inr other ↦ get_or-set_other s.0.drained (place + 1) k true false other.1 ∙ d.above k (let o = other.1 in omega arith) high
      ];
      rest_of = λ k low high. get_or-set_other s.0.drained (place + 1) k true false (λ is. absurd (omega arith)) ∙ d.rest_of k low (omega arith);
      editions = e ∷ d.editions;
      hand_is = ap (λ (h : List (ℕ × Slot E B)). (place + 1, Edition (Some e)) ∷ h) d.hand_is;
      number = let n = d.number in omega arith;
      looks = (others, found) ∷ d.looks;
      looks_count = let n = d.looks_count in omega arith;
      steps = ap (λ (ts : List (ℕ × ℕ)). with_loads ts (tracker_index (place + 1)) others ++ (tracker_index (place + 1), found) ∷ []) d.steps;
      olds = olds_with;
    }
      where
        olds_with : (j : ℕ) (x : E) → slice_get (e ∷ d.editions) j ≡ Some x → (m.number x ≡ old.0.number) × IsLast old.0 (m.name x) (m.tag x)
        olds_with zero x at =
            let is : e ≡ x = cc in
            subst (λ (y : E). (m.number y ≡ old.0.number) × IsLast old.0 (m.name y) (m.tag y)) is
            (number ∙ ap (λ (v : View E B T L I). v.number) d.same, subst (λ (v : View E B T L I). IsLast v (m.name e) (m.tag e)) d.same last)
        olds_with (suc j) x at = d.olds j x at

    -- one more
    pub draining_one : (at place : ℕ) (old s new : Me (Slot E B) (View E B T L I)) → at ≡ place + 1 → at < length old.0.drained → WaitsForProcessor m s at new → Draining at old s → Draining place old new
    draining_one at place old s new is within f d =
        let go : (p : ℕ) → p ≡ place + 1 → p < length old.0.drained → WaitsForProcessor m s p new → Draining p old s → Draining place old new = λ p e. subst (λ (q : ℕ). q < length old.0.drained → WaitsForProcessor m s q new → Draining q old s → Draining place old new) (sym e)
        (λ w g c. subst (λ (z : Me (Slot E B) (View E B T L I)). Draining place old z) (sym g.3) (draining_step place g.1 g.0 g.2 old s w g.4 g.5 c)) in
        go at is within f d

    -- behind the look at place 1 all processors were found out
    pub draining_all : (old s : Me (Slot E B) (View E B T L I)) → Draining 0 old s → HasFoundAll m old s
    draining_all old s d =
        let count : s.0.count ≡ old.0.count = ap (λ (v : View E B T L I). v.count) d.same in
        record {
          same = d.same;
          revoked = d.revoked;
          drained = λ k low high. d.above k low (omega arith);
          editions = d.editions;
          hand_is = d.hand_is;
          looks = d.looks;
          looks_count = let n = d.looks_count in omega arith;
          steps = d.steps;
          old_ones = record {
            count = let n = d.number in omega arith;
            same = λ j e at. let o = d.olds j e at in (o.0 ∙ sym (ap (λ (v : View E B T L I). v.number) d.same), subst (λ (v : View E B T L I). IsLast v (m.name e) (m.tag e)) (sym d.same) o.1);
          };
        }
