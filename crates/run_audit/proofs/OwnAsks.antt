-- The asks of a record among those of the journal.
use Rattle.std.proofs.Common.{◌≡◌, ℕ, zero, suc, ◌+◌, ◌<◌, ◌≤◌, ◌==◌, true, false, not, List, [], ◌∷◌, ◌++◌, length, map, Some, refl, sym, ap, ◌∙◌, subst, inl, inr, arith}
use Rattle.std.specs.Prelude.{◌&&◌, max, nat_lt, replicate, slice_get, slice_index, slice_set}
use Rattle.std.specs.List.{filter, list_all, AllByRecursion}
use Rattle.std.proofs.lemmas.Bool.{cases_Bool, eqb-true, and_parts}
use Rattle.std.proofs.lemmas.Bool.Decides.{nat_tests}
use Rattle.std.proofs.lemmas.List.{length-set, length-replicate, get_or-set_same, get_or-set_other}
use Rattle.state_asks.specs.declared.op.Op.{Op}
use Rattle.state_asks.specs.declared.reply.Reply.{Reply}
use Rattle.state_journal.specs.Items.{asks_of}
use Rattle.state_journal.specs.declared.entry.Entry.{Entry}
use Rattle.state_journal.specs.declared.entry.Entry.TheVariants.{Publish, Ask}
use Rattle.fw_world.specs.Asks.{LaneAsk, asks_in, asks_of_record}
use Rattle.run_audit.specs.declared.ask_stands.AskStand.{AskStand}
use Rattle.run_audit.specs.Judging.{AreTimely}
use Rattle.run_audit.specs.AskStands.{asked_of, most_lanes, no_sweep, stands_of, SweepValue, stand_of, swept, stands_from, is_asked_for, asked_by_each, is_timely}
use Rattle.run_audit.proofs.Picked.{front_more, found_there}

-- those of a record ask what its lane's asks of it do
pub own_asked : (lane at : ℕ) (all front entries : List Entry) (place : ℕ) (sweep : SweepValue) → all ≡ front ++ entries → place ≡ length front
    → asked_by_each all (filter (is_asked_for lane at) (stands_from sweep place entries)) ≡ map asked_of (asks_of_record at (asks_in (asks_of lane sweep.after entries)))
own_asked lane at all front [] place sweep is there = refl
own_asked lane at all front (Publish number ∷ entries) place sweep is there =
    let (more, next) = front_more all front (Publish number) entries place is there in
    own_asked lane at all (front ++ Publish number ∷ []) entries (place + 1) (swept sweep (Publish number)) more next
own_asked lane at all front (Ask by op reply when ∷ entries) place sweep is there =
    let entry : Entry = Ask by op reply when in
    let (more, next) = front_more all front entry entries place is there in
    let rest = own_asked lane at all (front ++ entry ∷ []) entries (place + 1) (swept sweep entry) more next in
    let found = found_there all front entry entries place is there in
    elim (cases_Bool (by == lane)) [
      | inl same ↦ elim (cases_Bool (when == at)) [
        | inl own ↦ rw (same, own, found) (ap (λ (ys : List (Op × Reply)). (op, reply) ∷ ys) rest)
        | inr other ↦ rw (same, other) rest
      ]
      | inr other ↦ rw other rest
    ]

-- ---- in time

-- Asks of this record are of this edition, none behind a later record of its lane or behind this number.
pub record AreTimelyFrom (greatest at edition : ℕ) (asks : List LaneAsk) : Type 0 where
  pub under : AllByRecursion (λ ask. ask.after ≡ edition) (asks_of_record at asks)
  pub first : (late : ℕ) (own : LaneAsk) → slice_get asks late ≡ Some own → own.at ≡ at → greatest ≤ at
  pub ordered : (early late : ℕ) (before own : LaneAsk) → early < late → slice_get asks early ≡ Some before → slice_get asks late ≡ Some own → own.at ≡ at
      → before.at ≤ at

none_timely : (greatest at edition : ℕ) → AreTimelyFrom greatest at edition []
none_timely greatest at edition = record {
  under = tt;
  first = λ late own found is. absurd (cc);
  ordered = λ early late before own less found found_own is. absurd (cc);
}

same_ask : (ask own : LaneAsk) → Some ask ≡ Some own → ask ≡ own
same_ask ask own is = cc

is_not : (when at : ℕ) → (when == at) ≡ false → when ≡ at → ⊥
is_not when at other same = false_is_true (sym other ∙ ap (λ (n : ℕ). n == at) same ∙ itself at)
  where
    itself : (n : ℕ) → (n == n) ≡ true
    itself n = grind (arith)

    false_is_true : false ≡ true → ⊥
    false_is_true e = cc

module _ (greatest at edition : ℕ) (ask : LaneAsk) (asks : List LaneAsk) where
  -- an ask before them, which isn't of the record or is in time
  before_all : (ask.at ≡ at → greatest ≤ at) → AllByRecursion (λ one. one.after ≡ edition) (asks_of_record at (ask ∷ asks)) → AreTimelyFrom (max greatest ask.at) at edition asks
      → AreTimelyFrom greatest at edition (ask ∷ asks)
  before_all own_first under rest = record { under = under; first = firsts; ordered = orders }
    where
      firsts : (late : ℕ) (own : LaneAsk) → slice_get (ask ∷ asks) late ≡ Some own → own.at ≡ at → greatest ≤ at
      firsts zero own found is = own_first (ap (λ (one : LaneAsk). one.at) (same_ask ask own found) ∙ is)
      firsts (suc late) own found is =
          let most : max greatest ask.at ≤ at = rest.first late own found is in
          omega (arith, most)

      orders : (early late : ℕ) (before own : LaneAsk) → early < late → slice_get (ask ∷ asks) early ≡ Some before → slice_get (ask ∷ asks) late ≡ Some own → own.at ≡ at → before.at ≤ at
      orders early zero before own less found found_own is = absurd (omega arith)
      orders zero (suc late) before own less found found_own is =
          let most : max greatest ask.at ≤ at = rest.first late own found_own is in
          let same : ask.at ≡ before.at = ap (λ (one : LaneAsk). one.at) (same_ask ask before found) in
          omega (arith, most, same)
      orders (suc early) (suc late) before own less found found_own is = rest.ordered early late before own (omega arith) found found_own is

  -- what is so behind an ask
  behind_one : AreTimelyFrom greatest at edition (ask ∷ asks) → AllByRecursion (λ one. one.after ≡ edition) (asks_of_record at asks) → AreTimelyFrom (max greatest ask.at) at edition asks
  behind_one all under = record { under = under; first = firsts; ordered = λ early late before own less found found_own is. all.ordered (suc early) (suc late) before own (omega arith) found found_own is }
    where
      firsts : (late : ℕ) (own : LaneAsk) → slice_get asks late ≡ Some own → own.at ≡ at → max greatest ask.at ≤ at
      firsts late own found is =
          let lower : greatest ≤ at = all.first (suc late) own found is in
          let other : ask.at ≤ at = all.ordered 0 (suc late) ask own (omega arith) refl found is in
          omega (arith, lower, other)

-- the greatest record of a lane, one ask of it further
greatest_same : (greatest : List ℕ) (by lane when : ℕ) → by ≡ lane → lane < length greatest
    → slice_index (slice_set greatest by (max (slice_index greatest by) when)) lane ≡ max (slice_index greatest lane) when
greatest_same greatest by lane when same within =
    subst (λ (n : ℕ). slice_index (slice_set greatest n (max (slice_index greatest n) when)) lane ≡ max (slice_index greatest lane) when) (sym same)
    (get_or-set_same greatest lane (max (slice_index greatest lane) when) 0 within)

-- one ask of another lane further
greatest_other : (greatest : List ℕ) (by lane when : ℕ) → (by == lane) ≡ false → slice_index (slice_set greatest by (max (slice_index greatest by) when)) lane ≡ slice_index greatest lane
greatest_other greatest by lane when other = get_or-set_other greatest by lane (max (slice_index greatest by) when) 0 (λ (same : lane ≡ by). is_not by lane other (sym same))

length-swept : (greatest : List ℕ) (by value lane : ℕ) → lane < length greatest → lane < length (slice_set greatest by value)
length-swept greatest by value lane within = subst (λ (n : ℕ). lane < n) (sym (length-set greatest by value)) within

timely_parts : (after edition when greatest : ℕ) → (after == edition && not (nat_lt when greatest)) ≡ true → (after ≡ edition) × (greatest ≤ when)
timely_parts after edition when greatest is =
    let (same, not_less) = and_parts (after == edition) (not (nat_lt when greatest)) is in
    (eqb-true after edition same, no_less not_less)
  where
    no_less : not (nat_lt when greatest) ≡ true → greatest ≤ when
    no_less e = grind (arith, nat_tests)

timely_from_parts : (after edition when greatest : ℕ) → after ≡ edition → greatest ≤ when → (after == edition && not (nat_lt when greatest)) ≡ true
timely_from_parts after edition when greatest same up = grind (arith, nat_tests)

-- what is tested of the asks of a record says that they are timely
pub timely_so : (lane at edition place : ℕ) (entries : List Entry) (sweep : SweepValue) → lane < length sweep.greatest
    → list_all (is_timely edition) (filter (is_asked_for lane at) (stands_from sweep place entries)) ≡ true
    → AreTimelyFrom (slice_index sweep.greatest lane) at edition (asks_in (asks_of lane sweep.after entries))
timely_so lane at edition place [] sweep within is = none_timely _ at edition
timely_so lane at edition place (Publish number ∷ entries) sweep within is = timely_so lane at edition (place + 1) entries (swept sweep (Publish number)) within is
timely_so lane at edition place (Ask by op reply when ∷ entries) sweep within is =
    let g : ℕ = slice_index sweep.greatest lane in
    let entry : Entry = Ask by op reply when in
    let next : SweepValue = swept sweep entry in
    let further = length-swept sweep.greatest by (max (slice_index sweep.greatest by) when) lane within in
    let ask : LaneAsk = record { after = sweep.after; at = when; op = op; reply = reply } in
    let asks : List LaneAsk = asks_in (asks_of lane sweep.after entries) in
    elim (cases_Bool (by == lane)) [
      | inl same ↦
          let now : slice_index next.greatest lane ≡ max g when = greatest_same sweep.greatest by lane when (eqb-true by lane same) within in
          elim (cases_Bool (when == at)) [
            | inl own ↦
                let both = rw (same, own) at is in
                let (first, others) = and_parts _ _ both in
                let (under, up) = timely_parts sweep.after edition when (slice_index sweep.greatest by) first in
                let up_here : g ≤ at = subst (λ (n : ℕ). slice_index sweep.greatest n ≤ at) (eqb-true by lane same) (subst (λ (n : ℕ). slice_index sweep.greatest by ≤ n) (eqb-true when at own) up) in
                let rest = subst (λ (n : ℕ). AreTimelyFrom n at edition asks) now (timely_so lane at edition (place + 1) entries next further others) in
                rw same (before_all g at edition ask asks (λ (e : when ≡ at). up_here) (rw own (under, rest.under)) rest)
            | inr other ↦
                let others = rw (same, other) at is in
                let rest = subst (λ (n : ℕ). AreTimelyFrom n at edition asks) now (timely_so lane at edition (place + 1) entries next further others) in
                rw same (before_all g at edition ask asks (λ (e : when ≡ at). absurd (is_not when at other e)) (rw other rest.under) rest)
          ]
      | inr elsewhere ↦
          let others = rw elsewhere at is in
          let now : slice_index next.greatest lane ≡ g = greatest_other sweep.greatest by lane when elsewhere in
          rw elsewhere (subst (λ (n : ℕ). AreTimelyFrom n at edition asks) now (timely_so lane at edition (place + 1) entries next further others))
    ]

-- where they are timely, the test says so
pub so_timely : (lane at edition place : ℕ) (entries : List Entry) (sweep : SweepValue) → lane < length sweep.greatest
    → AreTimelyFrom (slice_index sweep.greatest lane) at edition (asks_in (asks_of lane sweep.after entries))
    → list_all (is_timely edition) (filter (is_asked_for lane at) (stands_from sweep place entries)) ≡ true
so_timely lane at edition place [] sweep within are = refl
so_timely lane at edition place (Publish number ∷ entries) sweep within are = so_timely lane at edition (place + 1) entries (swept sweep (Publish number)) within are
so_timely lane at edition place (Ask by op reply when ∷ entries) sweep within are =
    let g : ℕ = slice_index sweep.greatest lane in
    let entry : Entry = Ask by op reply when in
    let next : SweepValue = swept sweep entry in
    let further = length-swept sweep.greatest by (max (slice_index sweep.greatest by) when) lane within in
    let ask : LaneAsk = record { after = sweep.after; at = when; op = op; reply = reply } in
    let asks : List LaneAsk = asks_in (asks_of lane sweep.after entries) in
    elim (cases_Bool (by == lane)) [
      | inl same ↦
          let now : max g when ≡ slice_index next.greatest lane = sym (greatest_same sweep.greatest by lane when (eqb-true by lane same) within) in
          let all : AreTimelyFrom g at edition (ask ∷ asks) = rw same at are in
          elim (cases_Bool (when == at)) [
            | inl own ↦
                let under : AllByRecursion (λ (one : LaneAsk). one.after ≡ edition) (ask ∷ asks_of_record at asks) = rw own at all.under in
                let rest = subst (λ (n : ℕ). AreTimelyFrom n at edition asks) now (behind_one g at edition ask asks all under.1) in
                let up : g ≤ at = all.first 0 ask refl (eqb-true when at own) in
                let up_there : slice_index sweep.greatest by ≤ when = subst (λ (n : ℕ). slice_index sweep.greatest n ≤ when) (sym (eqb-true by lane same)) (subst (λ (n : ℕ). g ≤ n) (sym (eqb-true when at own)) up) in
                let first = timely_from_parts sweep.after edition when (slice_index sweep.greatest by) under.0 up_there in
                let others = so_timely lane at edition (place + 1) entries next further rest in
                rw (same, own) (rw (first, others) refl)
            | inr other ↦
                let under : AllByRecursion (λ (one : LaneAsk). one.after ≡ edition) (asks_of_record at asks) = rw other at all.under in
                let rest = subst (λ (n : ℕ). AreTimelyFrom n at edition asks) now (behind_one g at edition ask asks all under) in
                rw (same, other) (so_timely lane at edition (place + 1) entries next further rest)
          ]
      | inr elsewhere ↦
          let all : AreTimelyFrom g at edition asks = rw elsewhere at are in
          let now : g ≡ slice_index next.greatest lane = sym (greatest_other sweep.greatest by lane when elsewhere) in
          rw elsewhere (so_timely lane at edition (place + 1) entries next further (subst (λ (n : ℕ). AreTimelyFrom n at edition asks) now all))
    ]

-- nothing was read before
none_greatest : (lanes lane : ℕ) → slice_index (replicate lanes 0) lane ≡ 0
none_greatest zero lane = refl
none_greatest (suc lanes) zero = refl
none_greatest (suc lanes) (suc lane) = none_greatest lanes lane

lane_within : (lane : ℕ) → lane < 65536 → lane < length (no_sweep most_lanes).greatest
unfolding most_lanes
lane_within lane less = subst (λ (n : ℕ). lane < n) (sym (length-replicate {A = ℕ} 65536 0)) less

-- all asks of a journal: the test is that they are timely
pub are_timely_so : (lane at edition : ℕ) (entries : List Entry) → lane < 65536 → list_all (is_timely edition) (filter (is_asked_for lane at) (stands_of entries)) ≡ true
    → AreTimely (asks_in (asks_of lane 0 entries)) at edition
are_timely_so lane at edition entries less is =
    let all = timely_so lane at edition 0 entries (no_sweep most_lanes) (lane_within lane less) is in
    record { under = all.under; ordered = all.ordered }

-- asks of a record that are timely pass the test
pub so_are_timely : (lane at edition : ℕ) (entries : List Entry) → lane < 65536 → AreTimely (asks_in (asks_of lane 0 entries)) at edition
    → list_all (is_timely edition) (filter (is_asked_for lane at) (stands_of entries)) ≡ true
so_are_timely lane at edition entries less are = so_timely lane at edition 0 entries (no_sweep most_lanes) (lane_within lane less) (record {
  under = are.under;
  first = λ late own found is. subst (λ (n : ℕ). n ≤ at) (sym (none_greatest most_lanes lane)) (omega arith);
  ordered = are.ordered;
})

-- what is kept of an ask, by its parts
pub stand_so : (sweep : SweepValue) (place : ℕ) (entry : Entry) (lane at : ℕ) (op : Op) (reply : Reply) (greatest : ℕ) → entry ≡ Ask lane op reply at → greatest ≡ slice_index sweep.greatest lane
    → Some (record { lane = lane; at = at; place = place; after = sweep.after; is_late = nat_lt at greatest }) ≡ stand_of sweep place entry
stand_so sweep place entry lane at op reply greatest is read =
    ap (λ (n : ℕ). let one : AskStand = record { lane = lane; at = at; place = place; after = sweep.after; is_late = nat_lt at n } in Some one) read ∙ sym (ap (stand_of sweep place) is)
