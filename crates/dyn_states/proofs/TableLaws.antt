-- Each part of the table follows its slots, where a state is made, given up or touched.
use Rattle.std.proofs.Common.{◌≡◌, ◌≢◌, ℕ, ◌+◌, ◌<◌, ◌≤◌, Bool, true, false, List, [], ◌∷◌, ◌++◌, Option, Some, length, refl, sym, ◌∙◌, subst, cond, arith, length-append, ⊎_elim, All}
use Rattle.std.specs.Prelude.{◌||◌, nat_le, nat_lt, filter, IsPermutation}
use Rattle.std.specs.List.{list_any}
use Rattle.std.proofs.Math.ListN.{set, length-set}
use Rattle.std.proofs.lemmas.Bool.Decides.{nat_tests}
use Rattle.std.proofs.lemmas.Bool.{cases_eq}
use Rattle.std.proofs.lemmas.List.Elements.{All-head, All-tail}
use Rattle.std.proofs.lemmas.List.Sorted.{list_any-IsPermutation, sum_by_popped, sum_by_pushed}
use Rattle.fw_rule.specs.declared.state_opt.LimitMask.TheVariants.{SrcAddr, SrcPort, DstAddr, DstPort}
use Rattle.dyn_states.specs.declared.tallies.Tallies.{Tallies}
use Rattle.dyn_states.specs.StateTable.{IsTouched}
use Rattle.dyn_states.specs.Tallies.{IsTallied}
use Rattle.dyn_states.proofs.CountLaws.{Counts-touch, Counts-held, live-touch, live-held}
use Rattle.dyn_states.proofs.SlotLaws.{filter-same, dead_is}
use Rattle.dyn_states.specs.declared.expiry_queue.ExpiryQueue.{ExpiryQueue}
use Rattle.state_asks.specs.declared.op.FlowName.TheVariants.{Named}
use Rattle.dyn_states.specs.declared.lines.Line.{Line}
use Rattle.dyn_states.specs.declared.lines.Lines.{Lines}
use Rattle.dyn_states.specs.declared.state.State.{State}
use Rattle.dyn_states.specs.ExpiryQueue.{Entry, entries, serves, is_due, due_count, IsQueue, Serves, ServesOthers}
use Rattle.dyn_states.specs.Lines.{Leads, place_of, line_count, line_at, same_line}
use Rattle.dyn_states.specs.Slots.{is_held, given_up, held_states, slot, no_state}
use Rattle.dyn_states.specs.StateObject.{considers, is_live}
use Rattle.dyn_states.proofs.LineLaws.{considered_line, same_line_self}
use Rattle.dyn_states.proofs.LeadsLaws.{none_held, pushed_slots, changed_slots}

-- a line that isn't the new one leads where it led
kept_place : (test : Bool) (new old : Option ℕ) (place k : ℕ) → new ≡ cond test (Some place) old → (test ≡ true → ⊥) → old ≡ Some k → new ≡ Some k
kept_place true new old place k is other was = absurd (other refl)
kept_place false new old place k is other was = is ∙ was

-- a state in a new slot: its line leads there, and each other line where it led
pub Leads-push : (slots : List State) (s : State) (old new : Lines) → Leads slots old
    → list_any (considers s.flow (Named s.name)) (held_states slots) ≡ false
    → ((q : Line) → place_of new q ≡ cond (same_line (line_at s) q) (Some (length slots)) (place_of old q))
    → s.name < new.names_end → old.names_end ≤ new.names_end → (old.names_end ≤ 256 → new.names_end ≤ 256) → line_count new ≤ line_count old + 1 → Leads (slots ++ s ∷ []) new
Leads-push slots s old new was first is name names ends few = record {
  ends = ends was.ends;
  here = pushed_slots (λ k x. is_held x ≡ true → place_of new (line_at x) ≡ Some k) slots s
      (λ k inside held. kept_place (same_line (line_at s) (line_at (slot slots k))) (place_of new (line_at (slot slots k))) (place_of old (line_at (slot slots k))) (length slots) k (is (line_at (slot slots k)))
      (λ same. apart (considered_line s.flow s.name (slot slots k) same) (none_held (considers s.flow (Named s.name)) slots k first inside held))
      (was.here k inside held))
      (λ held. is (line_at s) ∙ rw (same_line_self (line_at s)) refl);
  names = pushed_slots (λ k x. is_held x ≡ true → x.name < new.names_end) slots s (λ k inside held. let h = was.names k inside held in omega arith) (λ held. name);
  count = let e : line_count old ≤ length slots = was.count in omega (arith, length-append {A = State});
}
  where
    apart : {b : Bool} → b ≡ true → b ≡ false → ⊥
    apart here there = cc

-- a held state changes, but not in its flow and name: the lines lead to it still
pub Leads-touch : (slots : List State) (k : ℕ) (y : State) (lines : Lines) → Leads slots lines → k < length slots → is_held (slot slots k) ≡ true
    → y.flow ≡ (slot slots k).flow → y.name ≡ (slot slots k).name → Leads (set slots k y) lines
Leads-touch slots k y lines was inside held flow name = record {
  ends = was.ends;
  here = changed_slots (λ j x. is_held x ≡ true → place_of lines (line_at x) ≡ Some j) slots k y (λ j apart within. was.here j within) (λ still. rw (flow, name) (was.here k inside held));
  names = changed_slots (λ j x. is_held x ≡ true → x.name < lines.names_end) slots k y (λ j apart within. was.names j within) (λ still. rw name (was.names k inside held));
  count = let e : line_count lines ≤ length slots = was.count in omega (arith, length-set {A = State});
}

no_more : (s : State) → is_held (given_up s) ≡ true → ⊥
no_more s held = cc

-- a slot is given up: the lines lead to the other states still
pub Leads-give_up : (slots : List State) (k : ℕ) (lines : Lines) → Leads slots lines → Leads (set slots k (given_up (slot slots k))) lines
Leads-give_up slots k lines was = record {
  ends = was.ends;
  here = changed_slots (λ j x. is_held x ≡ true → place_of lines (line_at x) ≡ Some j) slots k (given_up (slot slots k)) (λ j apart within. was.here j within) (λ held. absurd (no_more (slot slots k) held));
  names = changed_slots (λ j x. is_held x ≡ true → x.name < lines.names_end) slots k (given_up (slot slots k)) (λ j apart within. was.names j within) (λ held. absurd (no_more (slot slots k) held));
  count = let e : line_count lines ≤ length slots = was.count in omega (arith, length-set {A = State});
}

-- one more entry serves what the others did
served_still : (test : Entry → Bool) (e : Entry) (old new : List Entry) → IsPermutation (e ∷ old) new → list_any test old ≡ true → list_any test new ≡ true
served_still test e old new perm was = sym (list_any-IsPermutation test (e ∷ old) new perm) ∙ rw was (or_true (test e))
  where
    or_true : (b : Bool) → (b || true) ≡ true
    or_true true = refl
    or_true false = refl

-- and what it serves itself
served_now : (test : Entry → Bool) (e : Entry) (old new : List Entry) → IsPermutation (e ∷ old) new → test e ≡ true → list_any test new ≡ true
served_now test e old new perm now = sym (list_any-IsPermutation test (e ∷ old) new perm) ∙ rw now refl

serves_self : (expiry place : ℕ) → serves place expiry (record { 0 = (expiry, place) }) ≡ true
serves_self expiry place = grind (arith, nat_tests)

-- a state in a new slot, with its expiry in the queue: each held state has its entry
pub Serves-push : (slots : List State) (s : State) (old new : ExpiryQueue) → Serves slots old → IsPermutation ((record { 0 = (s.expiry, length slots) }) ∷ entries old) (entries new) → IsQueue new → Serves (slots ++ s ∷ []) new
Serves-push slots s old new was perm order = record {
  served = pushed_slots (λ k x. is_held x ≡ true → list_any (serves k x.expiry) (entries new) ≡ true) slots s
      (λ k inside held. served_still (serves k (slot slots k).expiry) (record { 0 = (s.expiry, length slots) }) (entries old) (entries new) perm (was.served k inside held))
      (λ held. served_now (serves (length slots) s.expiry) (record { 0 = (s.expiry, length slots) }) (entries old) (entries new) perm (serves_self s.expiry (length slots)));
  order = order;
}

-- a slot is given up: it needs no entry, and the other states have theirs
pub Serves-give_up : (slots : List State) (k : ℕ) (queue : ExpiryQueue) → ServesOthers slots queue k → Serves (set slots k (given_up (slot slots k))) queue
Serves-give_up slots k queue was = record {
  served = changed_slots (λ j x. is_held x ≡ true → list_any (serves j x.expiry) (entries queue) ≡ true) slots k (given_up (slot slots k)) (λ j apart within. was.served j (λ e. apart (sym e)) within) (λ held. absurd (no_more (slot slots k) held));
  order = was.order;
}

-- a weaker test passes where a stronger one does
any_weaker : (p q : Entry → Bool) (es : List Entry) → ((e : Entry) → p e ≡ true → q e ≡ true) → list_any p es ≡ true → list_any q es ≡ true
any_weaker p q [] weaker some = some
any_weaker p q (e ∷ es) weaker some = decided (p e) (weaker e) (any_weaker p q es weaker) some
  where
    decided : (b : Bool) → (b ≡ true → q e ≡ true) → (list_any p es ≡ true → list_any q es ≡ true) → (b || list_any p es) ≡ true → (q e || list_any q es) ≡ true
    decided true first rest h = rw (first refl) refl
    decided false first rest h = or_right (q e) (rest h)
      where
        or_right : (c : Bool) → list_any q es ≡ true → (c || list_any q es) ≡ true
        or_right true h = refl
        or_right false h = h

serves_later : (place before after : ℕ) (e : Entry) → before ≤ after → serves place before e ≡ true → serves place after e ≡ true
serves_later place before after e later served = grind (arith, nat_tests)

-- a state is touched, and dies no sooner
pub Serves-later : (slots : List State) (k : ℕ) (y : State) (queue : ExpiryQueue) → Serves slots queue → k < length slots → is_held (slot slots k) ≡ true → (slot slots k).expiry ≤ y.expiry → Serves (set slots k y) queue
Serves-later slots k y queue was inside held later = record {
  served = changed_slots (λ j x. is_held x ≡ true → list_any (serves j x.expiry) (entries queue) ≡ true) slots k y (λ j apart within. was.served j within)
      (λ still. any_weaker (serves k (slot slots k).expiry) (serves k y.expiry) (entries queue) (λ e. serves_later k (slot slots k).expiry y.expiry e later) (was.served k inside held));
  order = was.order;
}

-- a state is touched, and its new expiry is put into the queue
pub Serves-sooner : (slots : List State) (k : ℕ) (y : State) (old new : ExpiryQueue) → Serves slots old → IsPermutation ((record { 0 = (y.expiry, k) }) ∷ entries old) (entries new) → IsQueue new → Serves (set slots k y) new
Serves-sooner slots k y old new was perm order = record {
  served = changed_slots (λ j x. is_held x ≡ true → list_any (serves j x.expiry) (entries new) ≡ true) slots k y
      (λ j apart within held. served_still (serves j (slot slots j).expiry) (record { 0 = (y.expiry, k) }) (entries old) (entries new) perm (was.served j within held))
      (λ still. served_now (serves k y.expiry) (record { 0 = (y.expiry, k) }) (entries old) (entries new) perm (serves_self y.expiry k));
  order = order;
}

-- a state's expiry is put into the queue again
pub Serves-put_back : (slots : List State) (k : ℕ) (expiry : ℕ) (old new : ExpiryQueue) → ServesOthers slots old k → expiry ≡ (slot slots k).expiry → IsPermutation ((record { 0 = (expiry, k) }) ∷ entries old) (entries new) → IsQueue new → Serves slots new
Serves-put_back slots k expiry old new was is perm order = record {
  served = λ j inside held. ⊎_elim
      (λ (e : k ≡ j). subst (λ n. list_any (serves n (slot slots n).expiry) (entries new) ≡ true) e (served_now (serves k (slot slots k).expiry) (record { 0 = (expiry, k) }) (entries old) (entries new) perm (rw (← is) (serves_self expiry k))))
      (λ (apart : k ≡ j → ⊥). served_still (serves j (slot slots j).expiry) (record { 0 = (expiry, k) }) (entries old) (entries new) perm (was.served j (λ e. apart (sym e)) inside held))
      (cases_eq k j);
  order = order;
}

-- a place that holds no state needs no entry
pub Serves-gone : (slots : List State) (k : ℕ) (queue : ExpiryQueue) → ServesOthers slots queue k → (k < length slots → is_held (slot slots k) ≡ true → ⊥) → Serves slots queue
Serves-gone slots k queue was gone = record {
  served = λ j inside held. ⊎_elim
      (λ (e : k ≡ j). absurd (subst (λ n. n < length slots → is_held (slot slots n) ≡ true → ⊥) e gone inside held))
      (λ (apart : k ≡ j → ⊥). was.served j (λ e. apart (sym e)) inside held)
      (cases_eq k j);
  order = was.order;
}

-- an entry comes out of the queue
pub Serves-popped : (slots : List State) (expiry k : ℕ) (old new : ExpiryQueue) → Serves slots old → IsPermutation (entries old) ((record { 0 = (expiry, k) }) ∷ entries new) → IsQueue new → ServesOthers slots new k
Serves-popped slots expiry k old new was perm order = record {
  served = λ j apart inside held.
      let there : list_any (serves j (slot slots j).expiry) ((record { 0 = (expiry, k) }) ∷ entries new) ≡ true = sym (list_any-IsPermutation (serves j (slot slots j).expiry) (entries old) ((record { 0 = (expiry, k) }) ∷ entries new) perm) ∙ was.served j inside held in
      rw (other_place j k (slot slots j).expiry expiry apart) at there;
  order = order;
}
  where
    other_place : (j k after before : ℕ) → j ≢ k → serves j after (record { 0 = (before, k) }) ≡ false
    other_place j k after before apart = grind (arith, nat_tests)

-- no entry is due
abbrev pub NoneDue : ℕ → List Entry → Type 0
NoneDue clock es = All (λ e. is_due clock e ≡ false) es

-- where none is due, whatever is served lives
later_than : (clock k expiry : ℕ) (es : List Entry) → NoneDue clock es → list_any (serves k expiry) es ≡ true → nat_lt clock expiry ≡ true
later_than clock k expiry [] none some = cc
later_than clock k expiry (e ∷ es) none some = decided (serves k expiry e) refl (λ h. later_than clock k expiry es (All-tail (λ e. is_due clock e ≡ false) e es none) h) some
  where
    here : serves k expiry e ≡ true → is_due clock e ≡ false → nat_lt clock expiry ≡ true
    here served later = grind (arith, nat_tests)

    decided : (b : Bool) → serves k expiry e ≡ b → (list_any (serves k expiry) es ≡ true → nat_lt clock expiry ≡ true) → (b || list_any (serves k expiry) es) ≡ true → nat_lt clock expiry ≡ true
    decided true is rest h = here is (All-head (λ e. is_due clock e ≡ false) e es none)
    decided false is rest h = rest h

-- where none is due, the held states are those that live
pub held_live : (clock : ℕ) (slots : List State) (queue : ExpiryQueue) → Serves slots queue → NoneDue clock (entries queue) → filter (is_live clock) slots ≡ held_states slots
held_live clock slots queue was none = filter-same (is_live clock) is_held slots (λ k inside. decided k (is_held (slot slots k)) refl (was.served k inside))
  where
    decided : (k : ℕ) (held : Bool) → is_held (slot slots k) ≡ held → (is_held (slot slots k) ≡ true → list_any (serves k (slot slots k).expiry) (entries queue) ≡ true) → is_live clock (slot slots k) ≡ is_held (slot slots k)
    decided k true is served = later_than clock k (slot slots k).expiry (entries queue) none (served is) ∙ sym is
    decided k false is served = dead_is clock (slot slots k).expiry is ∙ sym is

-- the tallies of a state that is touched stay
pub IsTallied-touch : (slots : List State) (k : ℕ) (y : State) (t : Tallies) → IsTallied slots t → k < length slots → is_held (slot slots k) ≡ true → is_held y ≡ true → IsTouched (slot slots k) y → IsTallied (set slots k y) t
IsTallied-touch slots k y t was inside held still same =
    let kept : is_held y ≡ is_held (slot slots k) = still ∙ sym held in
    record {
      live = was.live ∙ sym (live-touch slots k y no_state inside kept);
      limits = λ counting. let counts = was.limits counting in record {
        by_source = Counts-touch SrcAddr slots k y no_state t.by_source counts.by_source inside kept same.flow same.rule;
        by_source_port = Counts-touch SrcPort slots k y no_state t.by_source_port counts.by_source_port inside kept same.flow same.rule;
        by_destination = Counts-touch DstAddr slots k y no_state t.by_destination counts.by_destination inside kept same.flow same.rule;
        by_destination_port = Counts-touch DstPort slots k y no_state t.by_destination_port counts.by_destination_port inside kept same.flow same.rule;
      };
    }

-- the tallies stay where slots that hold no state are left out
pub IsTallied-held : (slots : List State) (t : Tallies) → IsTallied slots t → IsTallied (held_states slots) t
IsTallied-held slots t was = record {
  live = was.live ∙ sym (live-held slots);
  limits = λ counting. let counts = was.limits counting in record {
    by_source = Counts-held SrcAddr slots t.by_source counts.by_source;
    by_source_port = Counts-held SrcPort slots t.by_source_port counts.by_source_port;
    by_destination = Counts-held DstAddr slots t.by_destination counts.by_destination;
    by_destination_port = Counts-held DstPort slots t.by_destination_port counts.by_destination_port;
  };
}

-- a due entry that comes out is one less
pub due-popped : (clock expiry k : ℕ) (old new : ExpiryQueue) → expiry ≤ clock → IsPermutation (entries old) ((record { 0 = (expiry, k) }) ∷ entries new) → due_count clock new + 1 ≤ due_count clock old
due-popped clock expiry k old new due perm =
    let change = sum_by_popped (λ (e : Entry). cond (is_due clock e) 1 0) (record { 0 = (expiry, k) }) (entries old) (entries new) perm in
    let is : nat_le expiry clock ≡ true = grind (arith, nat_tests) in
    let change' = rw is at change in
    omega arith

-- an entry that isn't due changes nothing
pub due-pushed : (clock expiry k : ℕ) (old new : ExpiryQueue) → clock < expiry → IsPermutation ((record { 0 = (expiry, k) }) ∷ entries old) (entries new) → due_count clock new ≡ due_count clock old
due-pushed clock expiry k old new later perm =
    let change = sum_by_pushed (λ (e : Entry). cond (is_due clock e) 1 0) (record { 0 = (expiry, k) }) (entries old) (entries new) perm in
    let is : nat_le expiry clock ≡ false = grind (arith, nat_tests) in
    let change' = rw is at change in
    omega arith

-- a queue of the same entries serves the same
pub Serves-same : (slots : List State) (old new : ExpiryQueue) → Serves slots old → entries new ≡ entries old → IsQueue new → Serves slots new
Serves-same slots old new was same order = record { served = λ k inside held. rw same (was.served k inside held); order = order }
