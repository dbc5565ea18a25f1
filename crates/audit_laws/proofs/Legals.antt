-- What is known of a legal record: its last edition, its lanes and its journal.
use Rattle.std.proofs.Common.{◌≡◌, ℕ, ◌+◌, ◌*◌, ◌^◌, ◌<◌, ◌≤◌, Some, List, [], ◌∷◌, ◌++◌, length, refl, sym, ap, ◌∙◌, arith, append_assoc}
use Rattle.std.proofs.lemmas.List.{append-nil}
use Rattle.std.proofs.lemmas.Nat.{mod_below}
use Rattle.counter_book.specs.declared.tally.Count.{Count}
use Rattle.dyn_states.specs.StateObject.{StateObject, after_ask}
use Rattle.eval_engine.specs.Dockets.{DocketValue}
use Rattle.report_texts.specs.Report.{last_edition}
use Rattle.fw_rule.specs.declared.command.Command.{Command}
use Rattle.fw_world.specs.Editions.{AreEditionsFrom}
use Rattle.fw_world.specs.Inputs.{Input}
use Rattle.fw_world.specs.Lanes.{EachLane, LaneCounts}
use Rattle.fw_world.specs.Publications.{facts_of}
use Rattle.fw_world.specs.RecordValue.{RecordValue}
use Rattle.fw_world.specs.Sections.{judged_editions, tracker_after}
use Rattle.generation_store.specs.Published.{Published}
use Rattle.report_reading.specs.LaneLines.{IsLane}
use Rattle.rule_chain.specs.Configuration.{Configuration}
use Rattle.state_journal.specs.Journal.{Journal, IsLawfulFrom, object_after_publication, object_from, with_ask, with_publication}
use Rattle.state_journal.specs.declared.entry.Entry.{Entry}
use Rattle.state_journal.specs.declared.entry.Entry.TheVariants.{Publish, Ask}
use Rattle.run_audit.specs.PrintedJournals.{ArePrintableLanes, entered}

-- ---- the last edition

last_of_some : (edition : Published) (editions : List Published) → (last : Published) × (last_edition (edition ∷ editions) ≡ Some last)
last_of_some edition [] = (edition, refl)
last_of_some edition (next ∷ editions) = last_of_some next editions

-- some edition is the last one
pub has_last : (number : ℕ) (config : Configuration) (commands : List Command) (editions : List Published) → AreEditionsFrom number config commands editions
    → (last : Published) × (last_edition editions ≡ Some last)
has_last number config commands [] are = absurd are
has_last number config commands (edition ∷ editions) are = last_of_some edition editions

-- ---- lanes

tracker_fits : (sections : ℕ) → tracker_after sections < 2 ^ 64
tracker_fits sections = mod_below (2 * sections) (2 ^ 64) (omega arith)

-- lanes whose sections are counted are in the ranges of their lines
pub lanes_in_range : (r : RecordValue) (lane : ℕ) (inputs : List (List Input)) (dockets : List DocketValue) (tallies : List (List Count)) (trackers : List ℕ)
    → EachLane (LaneCounts r) lane inputs dockets tallies trackers → 1 ≤ lane → lane + length dockets ≤ 17 → length r.editions < 2 ^ 64 → ArePrintableLanes lane dockets trackers
lanes_in_range r lane inputs [] tallies trackers each first last few = tt
lanes_in_range r lane inputs (docket ∷ dockets) tallies [] each first last few = tt
lanes_in_range r lane [] (docket ∷ dockets) tallies (tracker ∷ trackers) each first last few = absurd each
lanes_in_range r lane (own ∷ inputs) (docket ∷ dockets) [] (tracker ∷ trackers) each first last few = absurd each
lanes_in_range r lane (own ∷ inputs) (docket ∷ dockets) (tally ∷ tallies) (tracker ∷ trackers) each first last few =
    let sections = each.0 in
    let refused = sections.few in
    let tracked = sections.tracked in
    let here : IsLane lane docket.refused tracker = record {
      first = first;
      last = omega (arith, last);
      refused_fits = omega (arith, refused, few);
      tracker_fits = omega (arith, tracked, tracker_fits (length (judged_editions docket.entries) + docket.refused));
    } in
    (here, lanes_in_range r (lane + 1) inputs dockets tallies trackers each.1 (omega (arith, first)) (omega (arith, last)) few)

-- ---- the journal

-- entries that are entered stand behind those before
pub entered_entries : (rest : List Published) (entries : List Entry) (object : StateObject) (journal : Journal) → IsLawfulFrom object (facts_of rest) entries
    → (entered rest entries journal).entries ≡ journal.entries ++ entries
entered_entries rest [] object journal lawful = sym (append-nil journal.entries)
entered_entries [] (Publish number ∷ entries) object journal lawful = absurd lawful
entered_entries (next ∷ rest) (Publish number ∷ entries) object journal lawful =
    entered_entries rest entries (object_after_publication object next.facts) (with_publication journal next.facts) lawful.1
    ∙ append_assoc journal.entries (Publish next.facts.number ∷ []) entries
    ∙ ap (λ (n : ℕ). journal.entries ++ Publish n ∷ entries) (sym lawful.0)
entered_entries [] (Ask lane op reply at ∷ entries) object journal lawful =
    entered_entries [] entries (after_ask object op) (with_ask journal lane at op reply) lawful.1 ∙ append_assoc journal.entries (Ask lane op reply at ∷ []) entries
entered_entries (next ∷ rest) (Ask lane op reply at ∷ entries) object journal lawful =
    entered_entries (next ∷ rest) entries (after_ask object op) (with_ask journal lane at op reply) lawful.1 ∙ append_assoc journal.entries (Ask lane op reply at ∷ []) entries

-- and the states are those that they leave
pub entered_object : (rest : List Published) (entries : List Entry) (object : StateObject) (journal : Journal) → IsLawfulFrom object (facts_of rest) entries
    → (entered rest entries journal).object ≡ object_from journal.object (facts_of rest) entries
entered_object rest [] object journal lawful = refl
entered_object [] (Publish number ∷ entries) object journal lawful = absurd lawful
entered_object (next ∷ rest) (Publish number ∷ entries) object journal lawful =
    entered_object rest entries (object_after_publication object next.facts) (with_publication journal next.facts) lawful.1
entered_object [] (Ask lane op reply at ∷ entries) object journal lawful = entered_object [] entries (after_ask object op) (with_ask journal lane at op reply) lawful.1
entered_object (next ∷ rest) (Ask lane op reply at ∷ entries) object journal lawful =
    entered_object (next ∷ rest) entries (after_ask object op) (with_ask journal lane at op reply) lawful.1
