-- Lines lead to the held states, where one is made, given up or touched.
use Rattle.std.proofs.Common.{◌≡◌, ℕ, ◌<◌, ◌≤◌, Bool, true, false, List, [], ◌∷◌, ◌++◌, length, zero, suc, refl, ap, sym, subst, cond, arith, get_or, length-append, ⊎_elim}
use Rattle.std.specs.Prelude.{◌||◌}
use Rattle.std.specs.List.{list_any}
use Rattle.std.proofs.Math.ListN.{set, length-set}
use Rattle.std.proofs.lemmas.Bool.{cases_lt, cases_eq}
use Rattle.dyn_states.specs.declared.state.State.{State}
use Rattle.dyn_states.specs.Slots.{is_held, held_states, slot}

-- a state that isn't there is in no held slot
pub none_held : (test : State → Bool) (xs : List State) (k : ℕ) → list_any test (held_states xs) ≡ false → k < length xs → is_held (slot xs k) ≡ true → test (slot xs k) ≡ false
none_held test [] k none inside held = absurd (omega arith)
none_held test (x ∷ xs) zero none inside held = first (rw held at none)
  where
    first : (test x || list_any test (held_states xs)) ≡ false → test x ≡ false
    first h = decided (test x) h
      where
        decided : (b : Bool) → (b || list_any test (held_states xs)) ≡ false → b ≡ false
        decided true h = h
        decided false h = refl
none_held test (x ∷ xs) (suc k) none inside held = none_held test xs k (rest (is_held x) none) (omega arith) held
  where
    rest : (b : Bool) → list_any test (cond b (x ∷ held_states xs) (held_states xs)) ≡ false → list_any test (held_states xs) ≡ false
    rest true h = decided (test x) h
      where
        decided : (b : Bool) → (b || list_any test (held_states xs)) ≡ false → list_any test (held_states xs) ≡ false
        decided true h = cc
        decided false h = h
    rest false h = h

-- a slot before a new one, and the new one
pub slot-before : (xs : List State) (s : State) (k : ℕ) → k < length xs → slot (xs ++ s ∷ []) k ≡ slot xs k
slot-before [] s k inside = absurd (omega arith)
slot-before (x ∷ xs) s zero inside = refl
slot-before (x ∷ xs) s (suc k) inside = slot-before xs s k (omega arith)

pub slot-new : (xs : List State) (s : State) → slot (xs ++ s ∷ []) (length xs) ≡ s
slot-new [] s = refl
slot-new (x ∷ xs) s = slot-new xs s

pub slot-set : (xs : List State) (k : ℕ) (y : State) → k < length xs → slot (set xs k y) k ≡ y
slot-set [] k y inside = absurd (omega arith)
slot-set (x ∷ xs) zero y inside = refl
slot-set (x ∷ xs) (suc k) y inside = slot-set xs k y (omega arith)

pub slot-set_other : (xs : List State) (k j : ℕ) (y : State) → (k ≡ j → ⊥) → slot (set xs k y) j ≡ slot xs j
slot-set_other [] k j y apart = refl
slot-set_other (x ∷ xs) zero zero y apart = absurd (apart refl)
slot-set_other (x ∷ xs) zero (suc j) y apart = refl
slot-set_other (x ∷ xs) (suc k) zero y apart = refl
slot-set_other (x ∷ xs) (suc k) (suc j) y apart = slot-set_other xs k j y (λ e. apart (ap suc e))

-- what holds of each slot after a new one
pub pushed_slots : (P : ℕ → State → Type 0) (xs : List State) (s : State) → ((k : ℕ) → k < length xs → P k (slot xs k)) → P (length xs) s → (k : ℕ) → k < length (xs ++ s ∷ []) → P k (slot (xs ++ s ∷ []) k)
pushed_slots P xs s before new k inside =
    ⊎_elim (λ (below : k < length xs). subst (P k) (sym (slot-before xs s k below)) (before k below))
    (λ (above : length xs ≤ k).
    let e : length xs ≡ k = omega (arith, length-append {A = State}, simp length-append at inside) in
    subst (λ (n : ℕ). P n (slot (xs ++ s ∷ []) n)) e (subst (P (length xs)) (sym (slot-new xs s)) new))
    (cases_lt k (length xs))

-- what holds of each slot after a change of one
pub changed_slots : (P : ℕ → State → Type 0) (xs : List State) (k : ℕ) (y : State) → ((j : ℕ) → (k ≡ j → ⊥) → j < length xs → P j (slot xs j)) → P k y → (j : ℕ) → j < length (set xs k y) → P j (slot (set xs k y) j)
changed_slots P xs k y others new j inside =
    let long : j < length xs = omega (arith, simp length-set at inside) in
    ⊎_elim (λ (e : k ≡ j). subst (λ (n : ℕ). n < length xs → P n (slot (set xs k y) n)) e (λ (l : k < length xs). subst (P k) (sym (slot-set xs k y l)) new) long)
    (λ (apart : k ≡ j → ⊥). subst (P j) (sym (slot-set_other xs k j y apart)) (others j apart long))
    (cases_eq k j)

-- what is read at a place is its slot
pub slot-read : (xs : List State) (k : ℕ) (x : State) → k < length xs → x ≡ get_or xs k x → x ≡ slot xs k
slot-read [] k x inside is = absurd (omega arith)
slot-read (y ∷ ys) zero x inside is = is
slot-read (y ∷ ys) (suc k) x inside is = slot-read ys k x (omega arith) is
