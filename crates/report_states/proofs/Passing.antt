-- Objects before a second and behind it, in what lives in a column.
use Rattle.std.proofs.Common.{◌≡◌, ◌≤◌, ◌<◌, ℕ, true, false, List, [], ◌∷◌, refl, ap, cond, nat_lt, arith, length}
use Rattle.std.specs.Prelude.{filter, max, nat_le}
use Rattle.std.specs.List.{AllByRecursion}
use Rattle.dyn_states.specs.StateObject.{StateObject}
use Rattle.report_states.specs.LiveCounts.{is_before, is_within, left_before, living_at, most_living, most_states}

is_at : (clock second : ℕ) → second ≤ clock → nat_lt clock second ≡ false
is_at clock second at = grind arith

is_below : (clock second : ℕ) → clock < second → nat_lt clock second ≡ true
is_below clock second below = grind arith

is_from : (clock second : ℕ) → second ≤ clock → nat_le second clock ≡ true
is_from clock second at = grind arith

isn't_from : (clock second : ℕ) → clock < second → nat_le second clock ≡ false
isn't_from clock second below = grind arith

-- of those behind a second none is before it
pub none_before : (second : ℕ) (objects : List StateObject) → AllByRecursion (λ (x : StateObject). second ≤ x.clock) objects → most_states (filter (is_before second) objects) ≡ 0
unfolding most_states
none_before second [] at = refl
none_before second (o ∷ objects) at = rw (is_at o.clock second at.0) (none_before second objects at.1)

-- one more is before a second
pub one_before : (second most : ℕ) (o : StateObject) (objects : List StateObject) → o.clock < second
    → max most (most_states (filter (is_before second) (o ∷ objects))) ≡ max (max most (length o.states)) (most_states (filter (is_before second) objects))
unfolding most_states
one_before second most o objects below = rw (is_below o.clock second below) (omega arith)

-- one that is before the seconds of a column is passed over
pub passed_over : (second begin end : ℕ) (o next : StateObject) (objects : List StateObject) → next.clock < second → second ≤ begin → most_living begin end o (next ∷ objects) ≡ most_living begin end next objects
unfolding left_before most_states
passed_over second begin end o next objects below at =
    let early : next.clock < begin = omega (arith, below, at) in
    let passed : filter (is_within begin end) (next ∷ objects) ≡ filter (is_within begin end) objects = rw (isn't_from next.clock begin early) refl in
    let stands : left_before begin o (next ∷ objects) ≡ left_before begin next objects = rw (is_below next.clock begin early) refl in
    rw (passed, stands) refl

-- where none is before a column's seconds, the first object stands at its beginning
pub left_there : (begin : ℕ) (o : StateObject) (objects : List StateObject) → AllByRecursion (λ (x : StateObject). begin ≤ x.clock) objects → left_before begin o objects ≡ o
unfolding left_before
left_there begin o [] at = refl
left_there begin o (next ∷ objects) at = rw (is_at next.clock begin at.0) (left_there begin o objects at.1)

-- and those in its seconds are those before its end
pub within_is_before : (begin end : ℕ) (objects : List StateObject) → AllByRecursion (λ (x : StateObject). begin ≤ x.clock) objects → filter (is_within begin end) objects ≡ filter (is_before end) objects
within_is_before begin end [] at = refl
within_is_before begin end (o ∷ objects) at =
    rw (is_from o.clock begin at.0) (ap (λ (rest : List StateObject). cond (nat_lt o.clock end) (o ∷ rest) rest) (within_is_before begin end objects at.1))

-- so what lives in a column is what lives at its beginning and behind those
pub column_is : (begin end before most : ℕ) (o : StateObject) (objects : List StateObject) → AllByRecursion (λ (x : StateObject). begin ≤ x.clock) objects
    → before ≡ living_at begin o → most ≡ most_states (filter (is_before end) objects) → max before most ≡ most_living begin end o objects
column_is begin end before most o objects at first rest = rw (left_there begin o objects at, within_is_before begin end objects at, ← first, ← rest) refl
