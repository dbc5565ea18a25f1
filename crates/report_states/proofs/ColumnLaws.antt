-- Columns, one behind the other.
use Rattle.std.proofs.Common.{◌≡◌, ◌≤◌, ◌+◌, ◌*◌, ◌-◌, ℕ, zero, suc, List, [], ◌∷◌, ◌++◌, refl, ap, ◌∙◌, arith, rules, append_assoc}
use Rattle.std.proofs.lemmas.List.{append-nil}
use Rattle.dyn_states.specs.StateObject.{StateObject}
use Rattle.state_asks.specs.declared.facts.Facts.{Facts}
use Rattle.state_journal.specs.Journal.{no_states}
use Rattle.state_journal.specs.declared.entry.Entry.{Entry}
use Rattle.report_states.specs.LiveCounts.{counts_from, most_living, objects_along}
use Rattle.report_states.specs.Walks.{objects_left}
use Rattle.report_states.specs.declared.walk.Walk.{Walk}

-- one column more is counted
pub counted_next : (left begin seconds count : ℕ) (o : StateObject) (objects : List StateObject) (counts : List ℕ) → 1 ≤ left → count ≡ most_living begin (begin + seconds) o objects
    → (counts ++ count ∷ []) ++ counts_from (left - 1) (begin + seconds) seconds o objects ≡ counts ++ counts_from left begin seconds o objects
unfolding counts_from
counted_next zero begin seconds count o objects counts some is = absurd (omega (arith, some))
counted_next (suc left) begin seconds count o objects counts some is =
    let less : suc left - 1 ≡ left = omega arith in
    rw less (append_assoc counts (count ∷ []) (counts_from left (begin + seconds) seconds o objects)
    ∙ ap (λ (n : ℕ). counts ++ n ∷ counts_from left (begin + seconds) seconds o objects) is)

-- no column is left
pub counted_all : (left begin seconds : ℕ) (o : StateObject) (objects : List StateObject) (counts : List ℕ) → left ≡ 0 → counts ++ counts_from left begin seconds o objects ≡ counts
unfolding counts_from
counted_all left begin seconds o objects counts none = rw none (append-nil counts)

-- none is counted
pub counted_none : (count begin first seconds : ℕ) (o : StateObject) (objects : List StateObject) (counts : List ℕ) → counts ≡ [] → begin ≡ first
    → counts ++ counts_from (count - 0) begin seconds o objects ≡ counts_from count first seconds o objects
counted_none count begin first seconds o objects counts none is =
    let all : count - 0 ≡ count = omega arith in
    rw (none, all, is) refl

-- a walk that begins has the whole journal before it
pub whole_left : (begin end : ℕ) (facts : List Facts) (entries : List Entry) (walk : Walk) → walk.states.object ≡ no_states → walk.facts.now ≡ facts → walk.entries.now ≡ entries
    → most_living begin end no_states (objects_along no_states facts entries) ≡ most_living begin end walk.states.object (objects_left walk)
whole_left begin end facts entries walk object same_facts same_entries = rw (object, same_facts, same_entries) refl

-- the second at which the next column begins
pub begins_next : (begin first place seconds added : ℕ) → begin ≡ first + place * seconds → added ≡ seconds → begin + added ≡ first + (place + 1) * seconds
begins_next begin first place seconds added is same =
    let more : (place + 1) * seconds ≡ place * seconds + seconds = search (arith, rules) in
    omega (arith, is, same, more)
