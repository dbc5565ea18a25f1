-- The list with its first passing state changed, by that state's place.
use Rattle.std.proofs.Common.{◌≡◌, ℕ, ◌<◌, Bool, true, false, List, [], ◌∷◌, Some, None, length, zero, suc, refl, ap, arith, get_or, cond, ◌+◌, sym, ◌∙◌}
use Rattle.std.proofs.lemmas.Iterator.Adapters.{position_from-zero}
use Rattle.std.proofs.Math.ListN.{set}
use Rattle.std.specs.List.{find, position, position_from}
use Rattle.std.proofs.lemmas.List.Quantifiers.{position-Some}
use Rattle.dyn_states.specs.StateObject.{with_first}
use Rattle.dyn_states.specs.declared.state.State.{State}

-- where the test passes at a place and at none before, the state there is the one changed
pub with_first_at : (test : State → Bool) (change : State → State) (xs : List State) (k : ℕ) (d : State) → k < length xs → test (get_or xs k d) ≡ true → ((j : ℕ) → j < k → test (get_or xs j d) ≡ false) → with_first test change xs ≡ set xs k (change (get_or xs k d))
unfolding with_first
with_first_at test change [] k d inside here before = absurd (omega arith)
with_first_at test change (x ∷ xs) zero d inside here before = rw here refl
with_first_at test change (x ∷ xs) (suc k) d inside here before =
    let first : test x ≡ false = before 0 (omega arith) in
    let inner = with_first_at test change xs k d (omega arith) here (λ j below. before (suc j) (omega arith)) in
    rw first (ap (λ (rest : List State). x ∷ rest) inner)

-- and it is the one found
pub find_at : (test : State → Bool) (xs : List State) (k : ℕ) (d : State) → k < length xs → test (get_or xs k d) ≡ true → ((j : ℕ) → j < k → test (get_or xs j d) ≡ false) → find test xs ≡ Some (get_or xs k d)
find_at test [] k d inside here before = absurd (omega arith)
find_at test (x ∷ xs) zero d inside here before = rw here refl
find_at test (x ∷ xs) (suc k) d inside here before =
    let first : test x ≡ false = before 0 (omega arith) in
    rw first (find_at test xs k d (omega arith) here (λ j below. before (suc j) (omega arith)))

-- the same by the place that `position` answers
pub find_place : (test : State → Bool) (xs : List State) (k : ℕ) (d : State) → position test xs ≡ Some k → find test xs ≡ Some (get_or xs k d)
find_place test xs k d at =
    let told = position-Some test xs k d at in
    find_at test xs k d told.0 told.1 told.2

-- the state at the place that `position` answers is the one changed
pub with_first_place : (test : State → Bool) (change : State → State) (xs : List State) (k : ℕ) (d : State) → position test xs ≡ Some k → with_first test change xs ≡ set xs k (change (get_or xs k d))
with_first_place test change xs k d at =
    let told = position-Some test xs k d at in
    with_first_at test change xs k d told.0 told.1 told.2

-- where `position` answers none, nothing is found and nothing changed
find_nowhere_from : (test : State → Bool) (xs : List State) (i : ℕ) → position_from test i xs ≡ None → find test xs ≡ None
find_nowhere_from test [] i none = refl
find_nowhere_from test (x ∷ xs) i none = decided (test x) none (find_nowhere_from test xs (i + 1))
  where
    decided : (b : Bool) → cond b (Some i) (position_from test (i + 1) xs) ≡ None → (position_from test (i + 1) xs ≡ None → find test xs ≡ None) → cond b (Some x) (find test xs) ≡ None
    decided true none deeper = cc
    decided false none deeper = deeper none

with_first_nowhere_from : (test : State → Bool) (change : State → State) (xs : List State) (i : ℕ) → position_from test i xs ≡ None → with_first test change xs ≡ xs
unfolding with_first
with_first_nowhere_from test change [] i none = refl
with_first_nowhere_from test change (x ∷ xs) i none = decided (test x) none (with_first_nowhere_from test change xs (i + 1))
  where
    decided : (b : Bool) → cond b (Some i) (position_from test (i + 1) xs) ≡ None → (position_from test (i + 1) xs ≡ None → with_first test change xs ≡ xs) → cond b (change x ∷ xs) (x ∷ with_first test change xs) ≡ x ∷ xs
    decided true none deeper = cc
    decided false none deeper = ap (λ (rest : List State). x ∷ rest) (deeper none)

-- where `position` answers none, no state is found
pub find_nowhere : (test : State → Bool) (xs : List State) → position test xs ≡ None → find test xs ≡ None
find_nowhere test xs none = find_nowhere_from test xs 0 (sym (position_from-zero test xs) ∙ none)

-- where `position` answers none, no state is changed
pub with_first_nowhere : (test : State → Bool) (change : State → State) (xs : List State) → position test xs ≡ None → with_first test change xs ≡ xs
with_first_nowhere test change xs none = with_first_nowhere_from test change xs 0 (sym (position_from-zero test xs) ∙ none)

-- a state, where a lemma asks for some
abbrev pub some_state : State
some_state = record {
  flow = record { protocol = 0; source = record { 0 = 0 }; source_port = 0; destination = record { 0 = 0 }; destination_port = 0 };
  rule = record { id = 0; number = 0 };
  limit = None;
  name = 0;
  expiry = 0;
  forward = 0;
  reverse = 0;
}
