-- The states that slots hold, where a slot is added, given up or touched, and where one is looked for.
use Rattle.std.proofs.Common.{◌≡◌, ℕ, ◌+◌, ◌<◌, ◌≤◌, Bool, true, false, List, [], ◌∷◌, ◌++◌, Some, None, length, zero, suc, refl, ap, sym, ◌∙◌, cond, arith, zero-add, All}
use Rattle.std.specs.Prelude.{filter, find, count_by, map, ◌&&◌, ◌||◌, nat_lt}
use Rattle.std.specs.List.{list_any}
use Rattle.std.proofs.Math.ListN.{set}
use Rattle.std.proofs.lemmas.List.Elements.{filter-append, All-head, All-tail}
use Rattle.std.proofs.lemmas.Bool.Decides.{nat_tests}
use Rattle.std.proofs.lemmas.List.Sums.{sum_by-cons}
use Rattle.dyn_states.specs.declared.state.State.{State}
use Rattle.dyn_states.specs.Slots.{is_held, held_states, slot, holds_one}
use Rattle.dyn_states.specs.StateObject.{with_first, is_live, handed_over, has_rule_among, states_after}

-- a held state is added
pub held_states-push : (slots : List State) (s : State) → is_held s ≡ true → held_states (slots ++ s ∷ []) ≡ held_states slots ++ s ∷ []
held_states-push slots s held = rw (filter-append is_held slots (s ∷ [])) (rw held refl)

-- a slot that fails a test is changed to one that fails it
pub filter-set_out : (test : State → Bool) (xs : List State) (k : ℕ) (y : State) → test (slot xs k) ≡ false → test y ≡ false → filter test (set xs k y) ≡ filter test xs
filter-set_out test [] k y out still = refl
filter-set_out test (x ∷ xs) zero y out still = rw (out, still) refl
filter-set_out test (x ∷ xs) (suc k) y out still = rw (filter-set_out test xs k y out still) refl

-- two tests that agree on each slot keep the same
pub filter-same : (test other : State → Bool) (xs : List State) → ((k : ℕ) → k < length xs → test (slot xs k) ≡ other (slot xs k)) → filter test xs ≡ filter other xs
filter-same test other [] same = refl
filter-same test other (x ∷ xs) same =
    let first : test x ≡ other x = same 0 (omega arith) in
    rw (first, filter-same test other xs (λ k below. same (suc k) (omega arith))) refl

-- what isn't held doesn't live
pub dead_is : (clock expiry : ℕ) → nat_lt 0 expiry ≡ false → nat_lt clock expiry ≡ false
dead_is clock expiry dead = grind (arith, nat_tests)

-- what lives is held
pub live_is_held : (clock : ℕ) (xs : List State) → filter (is_live clock) (held_states xs) ≡ filter (is_live clock) xs
live_is_held clock [] = refl
live_is_held clock (x ∷ xs) = decided (is_held x) (dead_is clock x.expiry) refl (live_is_held clock xs)
  where
    decided : (held : Bool) → (is_held x ≡ false → is_live clock x ≡ false) → is_held x ≡ held → filter (is_live clock) (held_states xs) ≡ filter (is_live clock) xs
        → filter (is_live clock) (cond (is_held x) (x ∷ held_states xs) (held_states xs)) ≡ cond (is_live clock x) (x ∷ filter (is_live clock) xs) (filter (is_live clock) xs)
    decided true dead held_is rest = rw held_is (rw rest refl)
    decided false dead held_is rest = rw held_is (rw (dead held_is) rest)

-- the first held slot that passes is found among the states
pub find-held : (test : State → Bool) (xs : List State) (k : ℕ) → k < length xs → holds_one test (slot xs k) ≡ true → ((j : ℕ) → j < k → holds_one test (slot xs j) ≡ false) → find test (held_states xs) ≡ Some (slot xs k)
find-held test [] k inside here before = absurd (omega arith)
find-held test (x ∷ xs) zero inside here before = decided (is_held x) (test x) here refl refl
  where
    decided : (held pass : Bool) → (is_held x && test x) ≡ true → is_held x ≡ held → test x ≡ pass → find test (cond (is_held x) (x ∷ held_states xs) (held_states xs)) ≡ Some x
    decided true true h a b = rw a (rw b refl)
    decided true false h a b = absurd (wrong (rw (a, b) at h))
      where
        wrong : false ≡ true → ⊥
        wrong e = cc
    decided false pass h a b = absurd (wrong (rw a at h))
      where
        wrong : false ≡ true → ⊥
        wrong e = cc
find-held test (x ∷ xs) (suc k) inside here before =
    let first : holds_one test x ≡ false = before 0 (omega arith) in
    let rest : find test (held_states xs) ≡ Some (slot xs k) = find-held test xs k (omega arith) here (λ j below. before (suc j) (omega arith)) in
    passed (is_held x) (test x) first refl refl rest
  where
    passed : (held pass : Bool) → (is_held x && test x) ≡ false → is_held x ≡ held → test x ≡ pass → find test (held_states xs) ≡ Some (slot xs k) → find test (cond (is_held x) (x ∷ held_states xs) (held_states xs)) ≡ Some (slot xs k)
    passed true true h a b rest = absurd (wrong (rw (a, b) at h))
      where
        wrong : true ≡ false → ⊥
        wrong e = cc
    passed true false h a b rest = rw a (rw b rest)
    passed false pass h a b rest = rw a rest

-- where no held slot passes, none is found
pub find-none : (test : State → Bool) (xs : List State) → ((j : ℕ) → j < length xs → holds_one test (slot xs j) ≡ false) → find test (held_states xs) ≡ None
find-none test [] out = refl
find-none test (x ∷ xs) out =
    let first : holds_one test x ≡ false = out 0 (omega arith) in
    let rest : find test (held_states xs) ≡ None = find-none test xs (λ j below. out (suc j) (omega arith)) in
    passed (is_held x) (test x) first refl refl rest
  where
    passed : (held pass : Bool) → (is_held x && test x) ≡ false → is_held x ≡ held → test x ≡ pass → find test (held_states xs) ≡ None → find test (cond (is_held x) (x ∷ held_states xs) (held_states xs)) ≡ None
    passed true true h a b rest = absurd (wrong (rw (a, b) at h))
      where
        wrong : true ≡ false → ⊥
        wrong e = cc
    passed true false h a b rest = rw a (rw b rest)
    passed false pass h a b rest = rw a rest

-- the first held slot that passes is the one changed
pub with_first-held : (test : State → Bool) (change : State → State) (xs : List State) (k : ℕ) → k < length xs → holds_one test (slot xs k) ≡ true → ((j : ℕ) → j < k → holds_one test (slot xs j) ≡ false) → is_held (change (slot xs k)) ≡ true
    → with_first test change (held_states xs) ≡ held_states (set xs k (change (slot xs k)))
unfolding with_first
with_first-held test change [] k inside here before kept = absurd (omega arith)
with_first-held test change (x ∷ xs) zero inside here before kept = decided (is_held x) (test x) here refl refl
  where
    decided : (held pass : Bool) → (is_held x && test x) ≡ true → is_held x ≡ held → test x ≡ pass → with_first test change (cond (is_held x) (x ∷ held_states xs) (held_states xs)) ≡ cond (is_held (change x)) (change x ∷ held_states xs) (held_states xs)
    decided true true h a b = rw a (rw b (rw kept refl))
    decided true false h a b = absurd (wrong (rw (a, b) at h))
      where
        wrong : false ≡ true → ⊥
        wrong e = cc
    decided false pass h a b = absurd (wrong (rw a at h))
      where
        wrong : false ≡ true → ⊥
        wrong e = cc
with_first-held test change (x ∷ xs) (suc k) inside here before kept =
    let first : holds_one test x ≡ false = before 0 (omega arith) in
    let rest : with_first test change (held_states xs) ≡ held_states (set xs k (change (slot xs k))) = with_first-held test change xs k (omega arith) here (λ j below. before (suc j) (omega arith)) kept in
    passed (is_held x) (test x) first refl refl rest
  where
    passed : (held pass : Bool) → (is_held x && test x) ≡ false → is_held x ≡ held → test x ≡ pass → with_first test change (held_states xs) ≡ held_states (set xs k (change (slot xs k)))
        → with_first test change (cond (is_held x) (x ∷ held_states xs) (held_states xs)) ≡ cond (is_held x) (x ∷ held_states (set xs k (change (slot xs k)))) (held_states (set xs k (change (slot xs k))))
    passed true true h a b rest = absurd (wrong (rw (a, b) at h))
      where
        wrong : true ≡ false → ⊥
        wrong e = cc
    passed true false h a b rest = rw a (rw b (ap (λ (ys : List State). x ∷ ys) rest))
    passed false pass h a b rest = rw a rest

-- where no held slot passes, nothing changes
pub with_first-none : (test : State → Bool) (change : State → State) (xs : List State) → ((j : ℕ) → j < length xs → holds_one test (slot xs j) ≡ false) → with_first test change (held_states xs) ≡ held_states xs
unfolding with_first
with_first-none test change [] out = refl
with_first-none test change (x ∷ xs) out =
    let first : holds_one test x ≡ false = out 0 (omega arith) in
    let rest : with_first test change (held_states xs) ≡ held_states xs = with_first-none test change xs (λ j below. out (suc j) (omega arith)) in
    passed (is_held x) (test x) first refl refl rest
  where
    passed : (held pass : Bool) → (is_held x && test x) ≡ false → is_held x ≡ held → test x ≡ pass → with_first test change (held_states xs) ≡ held_states xs
        → with_first test change (cond (is_held x) (x ∷ held_states xs) (held_states xs)) ≡ cond (is_held x) (x ∷ held_states xs) (held_states xs)
    passed true true h a b rest = absurd (wrong (rw (a, b) at h))
      where
        wrong : true ≡ false → ⊥
        wrong e = cc
    passed true false h a b rest = rw a (rw b (ap (λ (ys : List State). x ∷ ys) rest))
    passed false pass h a b rest = rw a rest

-- whether one is found is whether one passes
pub list_any-find : (test : State → Bool) (xs : List State) (s : State) → find test xs ≡ Some s → list_any test xs ≡ true
list_any-find test [] s is = cc
list_any-find test (x ∷ xs) s is = decided (test x) is (list_any-find test xs s)
  where
    decided : (b : Bool) → cond b (Some x) (find test xs) ≡ Some s → (find test xs ≡ Some s → list_any test xs ≡ true) → (b || list_any test xs) ≡ true
    decided true h deeper = refl
    decided false h deeper = deeper h

-- where no state is found, none passes the test
pub list_any-find_none : (test : State → Bool) (xs : List State) → find test xs ≡ None → list_any test xs ≡ false
list_any-find_none test [] is = refl
list_any-find_none test (x ∷ xs) is = decided (test x) is (list_any-find_none test xs)
  where
    decided : (b : Bool) → cond b (Some x) (find test xs) ≡ None → (find test xs ≡ None → list_any test xs ≡ false) → (b || list_any test xs) ≡ false
    decided true h deeper = cc
    decided false h deeper = deeper h

-- a count of the held states is one of the slots
pub count_by-held : (test : State → Bool) (xs : List State) → count_by test (held_states xs) ≡ count_by (holds_one test) xs
count_by-held test [] = refl
count_by-held test (x ∷ xs) = decided (is_held x) (count_by-held test xs) ∙ sym (sum_by-cons (λ (y : State). cond (holds_one test y) 1 0) x xs)
  where
    decided : (held : Bool) → count_by test (held_states xs) ≡ count_by (holds_one test) xs → count_by test (cond held (x ∷ held_states xs) (held_states xs)) ≡ cond (held && test x) 1 0 + count_by (holds_one test) xs
    decided true rest = sum_by-cons (λ (y : State). cond (test y) 1 0) x (held_states xs) ∙ ap (λ (n : ℕ). cond (test x) 1 0 + n) rest
    decided false rest = rest ∙ sym (zero-add _)

handed_over-held : (rules : List ℕ) (x : State) → is_held (handed_over rules x) ≡ is_held x
handed_over-held rules x = decided (has_rule_among rules x) refl
  where
    decided : (ruled : Bool) → has_rule_among rules x ≡ ruled → is_held (handed_over rules x) ≡ is_held x
    decided true a = rw a refl
    decided false a = rw a refl

-- a publication's change of the slots is its change of the states
pub states_after-held : (keep : Bool) (rules : List ℕ) (xs : List State) → held_states (states_after keep rules xs) ≡ states_after keep rules (held_states xs)
states_after-held true rules [] = refl
states_after-held true rules (x ∷ xs) = rw (handed_over-held rules x) (decided (is_held x) (states_after-held true rules xs))
  where
    decided : (held : Bool) → held_states (map (handed_over rules) xs) ≡ map (handed_over rules) (held_states xs)
        → cond held (handed_over rules x ∷ held_states (map (handed_over rules) xs)) (held_states (map (handed_over rules) xs)) ≡ map (handed_over rules) (cond held (x ∷ held_states xs) (held_states xs))
    decided true rest = ap (λ (ys : List State). handed_over rules x ∷ ys) rest
    decided false rest = rest
states_after-held false rules [] = refl
states_after-held false rules (x ∷ xs) = decided (is_held x) (has_rule_among rules x) refl refl (states_after-held false rules xs)
  where
    decided : (held ruled : Bool) → is_held x ≡ held → has_rule_among rules x ≡ ruled → held_states (filter (has_rule_among rules) xs) ≡ filter (has_rule_among rules) (held_states xs)
        → held_states (cond (has_rule_among rules x) (x ∷ filter (has_rule_among rules) xs) (filter (has_rule_among rules) xs)) ≡ filter (has_rule_among rules) (cond (is_held x) (x ∷ held_states xs) (held_states xs))
    decided true true a b rest = rw (a, b) (rw a (ap (λ (ys : List State). x ∷ ys) rest))
    decided true false a b rest = rw (a, b) rest
    decided false true a b rest = rw (a, b) (rw a rest)
    decided false false a b rest = rw (a, b) rest

-- what is held is held
pub held_twice : (xs : List State) → held_states (held_states xs) ≡ held_states xs
held_twice [] = refl
held_twice (x ∷ xs) = decided (is_held x) refl (held_twice xs)
  where
    decided : (b : Bool) → is_held x ≡ b → held_states (held_states xs) ≡ held_states xs → held_states (cond b (x ∷ held_states xs) (held_states xs)) ≡ cond b (x ∷ held_states xs) (held_states xs)
    decided true is rest = rw is (ap (λ (ys : List State). x ∷ ys) rest)
    decided false is rest = rest

-- a publication makes no states
pub length-states_after : (keep : Bool) (rules : List ℕ) (xs : List State) → length (states_after keep rules xs) ≤ length xs
length-states_after true rules [] = omega arith
length-states_after true rules (x ∷ xs) = let h = length-states_after true rules xs in omega arith
length-states_after false rules [] = omega arith
length-states_after false rules (x ∷ xs) = decided (has_rule_among rules x) (length-states_after false rules xs)
  where
    decided : (b : Bool) → length (filter (has_rule_among rules) xs) ≤ length xs → length (cond b (x ∷ filter (has_rule_among rules) xs) (filter (has_rule_among rules) xs)) ≤ suc (length xs)
    decided true h = omega arith
    decided false h = omega arith

-- what holds of each state holds of each held slot
pub held_all : (P : State → Type 0) (xs : List State) (k : ℕ) → All P (held_states xs) → k < length xs → is_held (slot xs k) ≡ true → P (slot xs k)
held_all P [] k all inside held = absurd (omega arith)
held_all P (x ∷ xs) zero all inside held = All-head P x (held_states xs) (rw held at all)
held_all P (x ∷ xs) (suc k) all inside held = held_all P xs k (rest (is_held x) all) (omega arith) held
  where
    rest : (b : Bool) → All P (cond b (x ∷ held_states xs) (held_states xs)) → All P (held_states xs)
    rest true all = All-tail P x (held_states xs) all
    rest false all = all
