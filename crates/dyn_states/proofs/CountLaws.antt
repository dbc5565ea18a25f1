-- The counts of a limit, and the number of states, where a state is made, given up or touched.
use Rattle.std.proofs.Common.{◌≡◌, ℕ, ◌+◌, ◌-◌, ◌<◌, Bool, true, false, List, [], ◌∷◌, ◌++◌, length, refl, ap, sym, ◌∙◌, cond, arith, get_or}
use Rattle.std.specs.Prelude.{count_by}
use Rattle.std.proofs.Math.ListN.{set}
use Rattle.std.proofs.lemmas.List.Sums.{sum_by_push, sum_by-set, length-filter}
use Rattle.fw_rule.specs.declared.state_opt.LimitMask.{LimitMask}
use Rattle.dyn_states.specs.declared.state.State.{State}
use Rattle.dyn_states.specs.declared.limit_counts.LimitCounts.{LimitCounts}
use Rattle.dyn_states.specs.LimitCounts.{Counts, amount_of, same_pair, pair_of, is_counted_for}
use Rattle.dyn_states.specs.Slots.{is_held, given_up, held_states}
use Rattle.dyn_states.proofs.Pairs.{same_pair_is}
use Rattle.dyn_states.proofs.SlotLaws.{count_by-held, held_twice}

-- one more where the pair is the state's
amounts_push : (test : Bool) (new here there counted : ℕ) → new ≡ cond test (there + 1) here → (test ≡ true → there ≡ here) → here ≡ counted → new ≡ counted + cond test 1 0
amounts_push true new here there counted is same was = let e = same refl in omega arith
amounts_push false new here there counted is same was = omega arith

-- one less where the pair is the state's
amounts_take : (test : Bool) (new here there before after : ℕ) → new ≡ cond test (there - 1) here → (test ≡ true → there ≡ here) → here ≡ before → after + cond test 1 0 ≡ before + 0 → new ≡ after
amounts_take true new here there before after is same was change = let e = same refl in omega arith
amounts_take false new here there before after is same was change = omega arith

-- a state is made
pub Counts-push : (mask : LimitMask) (slots : List State) (s : State) (old new : LimitCounts) → Counts mask slots old → is_held s ≡ true
    → ((q : ℕ × ℕ) → amount_of new q ≡ cond (same_pair (pair_of mask s) q) (amount_of old (pair_of mask s) + 1) (amount_of old q))
    → Counts mask (slots ++ s ∷ []) new
Counts-push mask slots s old new was held is = record {
  amounts = λ q. rw (sum_by_push (λ (x : State). cond (is_counted_for mask q x) 1 0) slots s) (rw held (amounts_push (same_pair (pair_of mask s) q) (amount_of new q) (amount_of old q) (amount_of old (pair_of mask s)) (count_by (is_counted_for mask q) slots) (is q) (λ same. ap (amount_of old) (same_pair_is (pair_of mask s) q same)) (was.amounts q)));
}

-- a state is given up
pub Counts-give_up : (mask : LimitMask) (slots : List State) (k : ℕ) (d : State) (old new : LimitCounts) → Counts mask slots old → k < length slots → is_held (get_or slots k d) ≡ true
    → ((q : ℕ × ℕ) → amount_of new q ≡ cond (same_pair (pair_of mask (get_or slots k d)) q) (amount_of old (pair_of mask (get_or slots k d)) - 1) (amount_of old q))
    → Counts mask (set slots k (given_up (get_or slots k d))) new
Counts-give_up mask slots k d old new was inside held is = record {
  amounts = λ q.
      let change = sum_by-set (λ (x : State). cond (is_counted_for mask q x) 1 0) slots k (given_up (get_or slots k d)) d inside in
      amounts_take (same_pair (pair_of mask (get_or slots k d)) q) (amount_of new q) (amount_of old q) (amount_of old (pair_of mask (get_or slots k d))) (count_by (is_counted_for mask q) slots) (count_by (is_counted_for mask q) (set slots k (given_up (get_or slots k d)))) (is q) (λ same. ap (amount_of old) (same_pair_is (pair_of mask (get_or slots k d)) q same)) (was.amounts q) (rw held at change);
}

-- a count stays where a slot's test does
count_kept : (test : State → Bool) (slots : List State) (k : ℕ) (y d : State) → k < length slots → test y ≡ test (get_or slots k d) → count_by test (set slots k y) ≡ count_by test slots
count_kept test slots k y d inside same =
    let change = sum_by-set (λ (x : State). cond (test x) 1 0) slots k y d inside in
    let change' = rw same at change in
    omega arith

-- a state is touched, and keeps its rule and its flow
pub Counts-touch : (mask : LimitMask) (slots : List State) (k : ℕ) (y d : State) (counts : LimitCounts) → Counts mask slots counts → k < length slots
    → is_held y ≡ is_held (get_or slots k d) → y.flow ≡ (get_or slots k d).flow → y.rule ≡ (get_or slots k d).rule → Counts mask (set slots k y) counts
Counts-touch mask slots k y d counts was inside held flow rule = record {
  amounts = λ q. was.amounts q ∙ sym (count_kept (is_counted_for mask q) slots k y d inside (rw (held, flow, rule) refl));
}

-- the number of states when one is made
pub live-push : (slots : List State) (s : State) → is_held s ≡ true → count_by is_held (slots ++ s ∷ []) ≡ count_by is_held slots + 1
live-push slots s held = rw (sum_by_push (λ (x : State). cond (is_held x) 1 0) slots s) (rw held refl)

-- when one is given up
pub live-give_up : (slots : List State) (k : ℕ) (d : State) → k < length slots → is_held (get_or slots k d) ≡ true → count_by is_held (set slots k (given_up (get_or slots k d))) + 1 ≡ count_by is_held slots
live-give_up slots k d inside held =
    let change = sum_by-set (λ (x : State). cond (is_held x) 1 0) slots k (given_up (get_or slots k d)) d inside in
    let change' = rw held at change in
    omega arith

-- when one is touched
pub live-touch : (slots : List State) (k : ℕ) (y d : State) → k < length slots → is_held y ≡ is_held (get_or slots k d) → count_by is_held (set slots k y) ≡ count_by is_held slots
live-touch slots k y d inside held = count_kept is_held slots k y d inside held

-- no slots, no counts
pub Counts-none : (mask : LimitMask) (counts : LimitCounts) → ((q : ℕ × ℕ) → amount_of counts q ≡ 0) → Counts mask [] counts
Counts-none mask counts none = record { amounts = none }

-- slots that hold no state are left out: the counts stay
pub Counts-held : (mask : LimitMask) (slots : List State) (counts : LimitCounts) → Counts mask slots counts → Counts mask (held_states slots) counts
Counts-held mask slots counts was = record {
  amounts = λ q.
      let test : State → Bool = λ s. same_pair (pair_of mask s) q in
      was.amounts q ∙ (sym (count_by-held test slots) ∙ (ap (count_by test) (sym (held_twice slots)) ∙ count_by-held test (held_states slots)));
}

-- and the number of states
pub live-held : (slots : List State) → count_by is_held (held_states slots) ≡ count_by is_held slots
live-held slots = sym (length-filter is_held (held_states slots)) ∙ (ap length (held_twice slots) ∙ length-filter is_held slots)
