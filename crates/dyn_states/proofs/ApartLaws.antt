-- No two states have one line, whatever a publication does.
use Rattle.std.proofs.Common.{◌≡◌, ℕ, ◌+◌, ◌<◌, Bool, true, false, List, [], ◌∷◌, Some, length, take, zero, suc, refl, ap, sym, ◌∙◌, cond, arith}
use Rattle.std.specs.Prelude.{filter, map, ◌||◌}
use Rattle.std.specs.List.{list_any}
use Rattle.state_asks.specs.declared.op.FlowName.TheVariants.{Named}
use Rattle.dyn_states.specs.declared.lines.Lines.{Lines}
use Rattle.dyn_states.specs.declared.state.State.{State}
use Rattle.dyn_states.specs.Lines.{Leads, place_of, line_at}
use Rattle.dyn_states.specs.Slots.{is_held, held_states, slot, holds_one}
use Rattle.dyn_states.specs.StateObject.{considers, has_rule_among, handed_over, states_after}
use Rattle.dyn_states.specs.StateTable.{AreApart}
use Rattle.dyn_states.proofs.LineLaws.{line_considered}
use Rattle.dyn_states.proofs.SlotLaws.{find-none, list_any-find_none}

apart_places : (n j : ℕ) → Some (n + 0) ≡ Some (n + suc j) → ⊥
apart_places n j e = let f : n + 0 ≡ n + suc j = cc in absurd (omega arith)

-- states that lines lead to, from a place on, are apart
apart_from : (n : ℕ) (xs : List State) (lines : Lines) → ((k : ℕ) → k < length xs → is_held (slot xs k) ≡ true → place_of lines (line_at (slot xs k)) ≡ Some (n + k)) → AreApart (held_states xs)
apart_from n [] lines here = tt
apart_from n (x ∷ xs) lines here = decided (is_held x) refl (apart_from (suc n) xs lines (λ k below held. here (suc k) (omega arith) held ∙ ap (λ (m : ℕ). Some m) (next k))) none
  where
    next : (k : ℕ) → n + suc k ≡ suc n + k
    next k = omega arith

    none : is_held x ≡ true → list_any (λ y. considers y.flow (Named y.name) x) (held_states xs) ≡ false
    none held = list_any-find_none (λ y. considers y.flow (Named y.name) x) (held_states xs) (find-none (λ y. considers y.flow (Named y.name) x) xs (λ j below. one j below (is_held (slot xs j)) (considers (slot xs j).flow (Named (slot xs j).name) x) refl refl))
      where
        one : (j : ℕ) → j < length xs → (h p : Bool) → is_held (slot xs j) ≡ h → considers (slot xs j).flow (Named (slot xs j).name) x ≡ p → holds_one (λ y. considers y.flow (Named y.name) x) (slot xs j) ≡ false
        one j below true true h p = absurd (apart_places n j (sym (here 0 (omega arith) held) ∙ (ap (place_of lines) (line_considered (slot xs j).flow (slot xs j).name x p) ∙ here (suc j) (omega arith) h)))
        one j below true false h p = rw (h, p) refl
        one j below false p h q = rw h refl

    decided : (b : Bool) → is_held x ≡ b → AreApart (held_states xs) → (is_held x ≡ true → list_any (λ y. considers y.flow (Named y.name) x) (held_states xs) ≡ false) → AreApart (cond (is_held x) (x ∷ held_states xs) (held_states xs))
    decided true is rest none = rw is (none is, rest)
    decided false is rest none = rw is rest

-- the states of a table are apart
pub leads_apart : (slots : List State) (lines : Lines) → Leads slots lines → AreApart (held_states slots)
leads_apart slots lines was = apart_from 0 slots lines (λ k inside held. was.here k inside held ∙ ap (λ (m : ℕ). Some m) (omega arith))

-- what none passes, none of a part passes
pub any_filter_none : (test p : State → Bool) (xs : List State) → list_any test xs ≡ false → list_any test (filter p xs) ≡ false
any_filter_none test p [] none = refl
any_filter_none test p (x ∷ xs) none = parted (test x) none refl (any_filter_none test p xs)
  where
    parted : (b : Bool) → (b || list_any test xs) ≡ false → test x ≡ b → (list_any test xs ≡ false → list_any test (filter p xs) ≡ false) → list_any test (cond (p x) (x ∷ filter p xs) (filter p xs)) ≡ false
    parted true h is rest = cc
    parted false h is rest = decided (p x) is (rest h)
      where
        decided : (c : Bool) → test x ≡ false → list_any test (filter p xs) ≡ false → list_any test (cond c (x ∷ filter p xs) (filter p xs)) ≡ false
        decided true is rest = rw is rest
        decided false is rest = rest

-- a state is apart from those before it
pub apart_front : (xs : List State) (j : ℕ) → AreApart xs → j < length xs → list_any (considers (slot xs j).flow (Named (slot xs j).name)) (take j xs) ≡ false
apart_front [] j apart inside = absurd (omega arith)
apart_front (x ∷ xs) zero apart inside = refl
apart_front (x ∷ xs) (suc j) apart inside = rw (first xs j apart.0 (omega arith)) (apart_front xs j apart.1 (omega arith))
  where
    first : (ys : List State) (j : ℕ) → list_any (λ y. considers y.flow (Named y.name) x) ys ≡ false → j < length ys → considers (slot ys j).flow (Named (slot ys j).name) x ≡ false
    first [] j none inside = absurd (omega arith)
    first (y ∷ ys) zero none inside = here (considers y.flow (Named y.name) x) none
      where
        here : (b : Bool) → (b || list_any (λ y. considers y.flow (Named y.name) x) ys) ≡ false → b ≡ false
        here true h = h
        here false h = refl
    first (y ∷ ys) (suc j) none inside = first ys j (there (considers y.flow (Named y.name) x) none) (omega arith)
      where
        there : (b : Bool) → (b || list_any (λ y. considers y.flow (Named y.name) x) ys) ≡ false → list_any (λ y. considers y.flow (Named y.name) x) ys ≡ false
        there true h = cc
        there false h = h

handed_flow : (rules : List ℕ) (s : State) → (handed_over rules s).flow ≡ s.flow
handed_flow rules s = decided (has_rule_among rules s) refl
  where
    decided : (b : Bool) → has_rule_among rules s ≡ b → (handed_over rules s).flow ≡ s.flow
    decided true is = rw is refl
    decided false is = rw is refl

handed_name : (rules : List ℕ) (s : State) → (handed_over rules s).name ≡ s.name
handed_name rules s = decided (has_rule_among rules s) refl
  where
    decided : (b : Bool) → has_rule_among rules s ≡ b → (handed_over rules s).name ≡ s.name
    decided true is = rw is refl
    decided false is = rw is refl

handed_same : (rules : List ℕ) (x y : State) → considers (handed_over rules y).flow (Named (handed_over rules y).name) (handed_over rules x) ≡ considers y.flow (Named y.name) x
handed_same rules x y = rw (handed_flow rules x, handed_name rules x, handed_flow rules y, handed_name rules y) refl

handed_none : (rules : List ℕ) (x : State) (xs : List State) → list_any (λ y. considers y.flow (Named y.name) x) xs ≡ false → list_any (λ y. considers y.flow (Named y.name) (handed_over rules x)) (map (handed_over rules) xs) ≡ false
handed_none rules x [] none = refl
handed_none rules x (y ∷ ys) none = parted (considers y.flow (Named y.name) x) (considers (handed_over rules y).flow (Named (handed_over rules y).name) (handed_over rules x)) none (handed_same rules x y) (handed_none rules x ys)
  where
    parted : (b c : Bool) → (b || list_any (λ y. considers y.flow (Named y.name) x) ys) ≡ false → c ≡ b
        → (list_any (λ y. considers y.flow (Named y.name) x) ys ≡ false → list_any (λ y. considers y.flow (Named y.name) (handed_over rules x)) (map (handed_over rules) ys) ≡ false)
        → (c || list_any (λ y. considers y.flow (Named y.name) (handed_over rules x)) (map (handed_over rules) ys)) ≡ false
    parted true c h e rest = cc
    parted false c h e rest = rw e (rest h)

-- a publication leaves them apart
pub states_after-apart : (keep : Bool) (rules : List ℕ) (xs : List State) → AreApart xs → AreApart (states_after keep rules xs)
states_after-apart true rules [] apart = tt
states_after-apart true rules (x ∷ xs) apart = (handed_none rules x xs apart.0, states_after-apart true rules xs apart.1)
states_after-apart false rules [] apart = tt
states_after-apart false rules (x ∷ xs) apart = decided (has_rule_among rules x) (any_filter_none (λ y. considers y.flow (Named y.name) x) (has_rule_among rules) xs apart.0) (states_after-apart false rules xs apart.1)
  where
    decided : (b : Bool) → list_any (λ y. considers y.flow (Named y.name) x) (filter (has_rule_among rules) xs) ≡ false → AreApart (filter (has_rule_among rules) xs) → AreApart (cond b (x ∷ filter (has_rule_among rules) xs) (filter (has_rule_among rules) xs))
    decided true none rest = (none, rest)
    decided false none rest = rest
