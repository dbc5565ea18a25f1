-- The clock of the state object along a journal never goes back.
use Rattle.std.proofs.Common.{◌≡◌, ◌≤◌, ℕ, List, [], ◌∷◌, refl, sym, ap, ◌∙◌, inl, inr, arith, length}
use Rattle.std.specs.Prelude.{count_by, max}
use Rattle.std.specs.List.{AllByRecursion}
use Rattle.std.proofs.lemmas.Bool.{cases_Bool}
use Rattle.std.proofs.lemmas.List.Sums.{length-filter}
use Rattle.dyn_states.proofs.SlotLaws.{live_is_held}
use Rattle.dyn_states.specs.Slots.{held_states}
use Rattle.dyn_states.specs.StateObject.{StateObject, after_ask, after_install, after_lookup, after_publication, install_reply, is_created, is_live, object_at_second}
use Rattle.dyn_states.specs.declared.state.State.{State}
use Rattle.state_asks.specs.declared.facts.Facts.{Facts}
use Rattle.state_asks.specs.Asked.{asked_second}
use Rattle.state_asks.specs.declared.op.Op.{Op}
use Rattle.state_asks.specs.declared.op.Op.TheVariants.{Lookup, Install}
use Rattle.state_journal.specs.declared.entry.Entry.{Entry}
use Rattle.state_journal.specs.declared.entry.Entry.TheVariants.{Publish, Ask}
use Rattle.report_states.specs.LiveCounts.{after_entry, after_next, facts_behind, objects_along}

-- a publication leaves the clock
pub clock_published : (o : StateObject) (facts : List Facts) → (after_next o facts).clock ≡ o.clock
unfolding after_publication
clock_published o [] = refl
clock_published o (next ∷ facts) = refl

-- an ask raises it to its second
pub clock_asked : (o : StateObject) (op : Op) → (after_ask o op).clock ≡ max o.clock (asked_second op)
unfolding object_at_second after_lookup after_install
clock_asked o (Lookup flags flow second name) = refl
clock_asked o (Install flags flow second rule limit name) = elim (cases_Bool (is_created (install_reply (object_at_second o second) flow rule limit name))) [
  | inl made ↦ rw made refl
  | inr none ↦ rw none refl
]

-- no entry lowers it
pub clock_rises : (o : StateObject) (facts : List Facts) (entry : Entry) → o.clock ≤ (after_entry o facts entry).clock
clock_rises o facts (Publish number) = rw (clock_published o facts) (omega arith)
clock_rises o facts (Ask lane op reply at) = rw (clock_asked o op) (omega arith)

-- so behind an object whose clock has come to a second it stays there
pub all_at : (second : ℕ) (o : StateObject) (facts : List Facts) (entries : List Entry) → second ≤ o.clock → AllByRecursion (λ (x : StateObject). second ≤ x.clock) (objects_along o facts entries)
unfolding objects_along
all_at second o facts [] at = tt
all_at second o facts (entry ∷ entries) at =
    let rises = clock_rises o facts entry in
    let there : second ≤ (after_entry o facts entry).clock = omega (arith, at, rises) in
    (there, all_at second (after_entry o facts entry) (facts_behind facts entry) entries there)

-- the slots that hold a state that lives are the states that live
pub count_slots : (second : ℕ) (slots : List State) → count_by (is_live second) slots ≡ count_by (is_live second) (held_states slots)
count_slots second slots =
    sym (length-filter (is_live second) slots) ∙ ap length (sym (live_is_held second slots)) ∙ length-filter (is_live second) (held_states slots)

-- the next entry, and what is behind it
pub along_next : (o next : StateObject) (facts left : List Facts) (entries behind : List Entry) (entry : Entry) → entries ≡ entry ∷ behind → next ≡ after_entry o facts entry → left ≡ facts_behind facts entry
    → objects_along o facts entries ≡ next ∷ objects_along next left behind
unfolding objects_along
along_next o next facts left entries behind entry is now less = rw (is, now, less) refl

-- where the clock comes to a second with the next entry, it is there with all
pub all_there : (second : ℕ) (o : StateObject) (facts : List Facts) (entries behind : List Entry) (entry : Entry) → entries ≡ entry ∷ behind → second ≤ (after_entry o facts entry).clock
    → AllByRecursion (λ (x : StateObject). second ≤ x.clock) (objects_along o facts entries)
unfolding objects_along
all_there second o facts entries behind entry is at = rw is (at, all_at second (after_entry o facts entry) (facts_behind facts entry) behind at)

-- where no entry is left
pub none_left : (o : StateObject) (facts : List Facts) (entries : List Entry) → length entries ≡ 0 → objects_along o facts entries ≡ []
unfolding objects_along
none_left o facts [] none = refl
none_left o facts (entry ∷ entries) none = absurd (omega (arith, none))
