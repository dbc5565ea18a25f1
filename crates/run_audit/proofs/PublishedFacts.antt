-- A journal that is replayed to its end publishes each of the editions once.
use Rattle.std.proofs.Common.{◌≡◌, ℕ, ◌+◌, ◌==◌, Bool, true, false, if◌then◌else◌, Option, Some, None, List, [], ◌∷◌, length, map, take, refl, sym, ap, ◌∙◌, subst, arith}
use Rattle.std.specs.Prelude.{slice_get}
use Rattle.std.proofs.lemmas.Bool.{eqb-true}
use Rattle.std.proofs.lemmas.List.{length-map, take_all}
use Rattle.dyn_states.specs.StateObject.{reply_of}
use Rattle.fw_rule.specs.declared.command.Command.{Command}
use Rattle.fw_world.specs.Editions.{AreEditions, AreEditionsFrom}
use Rattle.fw_world.specs.Publications.{IsPublished, facts_of}
use Rattle.generation_store.specs.Published.{Published}
use Rattle.report_reading.specs.AskLines.{AskValue}
use Rattle.report_reading.specs.Readings.{LineValue, OfRecord, OfPublication, OfAsk, OfLane, OfOther}
use Rattle.fw_base.specs.Chain.{◌>>=◌}
use Rattle.rule_chain.specs.Configuration.{Configuration}
use Rattle.state_asks.specs.declared.facts.Facts.{Facts}
use Rattle.state_asks.specs.declared.op.Op.{Op}
use Rattle.state_journal.specs.Journal.{Journal, IsJournal, with_ask, with_publication}
use Rattle.run_audit.specs.JournalTold.{Lawful, WrongAt, answered_as, edition_in_force, no_journal, or_wrong, published_under, replay, with_line}
use Rattle.run_audit.specs.ToldAsks.{op_under, are_told_alike}
use Rattle.run_audit.proofs.JournalSteps.{front_more}
use Rattle.run_audit.proofs.AskPlaces.{same_journal}

-- ---- facts

-- the facts of a journal are the first of these editions
abbrev AreFront : List Published → Journal → Type 0
AreFront editions journal = journal.facts ≡ take (length journal.facts) (facts_of editions)

stays : (editions : List Published) (old new : Journal) → AreFront editions old → Some old ≡ Some new → AreFront editions new
stays editions old new front is = subst (AreFront editions) (same_journal old new is) front

published : (editions : List Published) (found : Option Published) (number : ℕ) (old new : Journal) → AreFront editions old → slice_get editions (length old.facts) ≡ found
    → (found >>= published_under number old) ≡ Some new → AreFront editions new
published editions None number old new front next is = absurd (cc)
published editions (Some edition) number old new front next is = decided (edition.number == number) is
  where
    decided : (b : Bool) → (if b then Some (with_publication old edition.facts) else None) ≡ Some new → AreFront editions new
    decided false is = absurd (cc)
    decided true is = stays editions (with_publication old edition.facts) new (front_more editions old.facts edition front next) is

asked : (editions : List Published) (found : Option Op) (told : AskValue) (old new : Journal) → AreFront editions old → (found >>= answered_as told old) ≡ Some new → AreFront editions new
asked editions None told old new front is = absurd (cc)
asked editions (Some op) told old new front is = decided (are_told_alike (reply_of old.object op) told.reply) is
  where
    decided : (b : Bool) → (if b then Some (with_ask old told.lane told.at op (reply_of old.object op)) else None) ≡ Some new → AreFront editions new
    decided false is = absurd (cc)
    decided true is = stays editions (with_ask old told.lane told.at op (reply_of old.object op)) new front is

asked_under : (editions : List Published) (found : Option Published) (told : AskValue) (old new : Journal) → AreFront editions old
    → (found >>= λ (edition : Published). op_under edition told.op told.name >>= answered_as told old) ≡ Some new → AreFront editions new
asked_under editions None told old new front is = absurd (cc)
asked_under editions (Some edition) told old new front is = asked editions (op_under edition told.op told.name) told old new front is

front_kept : (editions : List Published) (value : LineValue) (old new : Journal) → AreFront editions old → with_line editions value old ≡ Some new → AreFront editions new
front_kept editions (OfRecord told) old new front is = stays editions old new front is
front_kept editions (OfPublication number) old new front is = published editions (slice_get editions (length old.facts)) number old new front refl is
front_kept editions (OfAsk told) old new front is = asked_under editions (edition_in_force editions old.facts) told old new front is
front_kept editions (OfLane told) old new front is = stays editions old new front is
front_kept editions OfOther old new front is = stays editions old new front is

-- one journal is lawful
pub same_lawful : (a b : Journal) → Lawful a ≡ Lawful b → a ≡ b
same_lawful a b is = cc

ended : (editions : List Published) (b : Bool) (line : ℕ) (old new : Journal) → AreFront editions old → (length old.facts == length editions) ≡ b → (if b then Lawful old else WrongAt line) ≡ Lawful new
    → new.facts ≡ facts_of editions
ended editions false line old new front test is = absurd (cc)
ended editions true line old new front test is =
    let same : length old.facts ≡ length editions = eqb-true (length old.facts) (length editions) test in
    let many : length (facts_of editions) ≡ length editions = length-map editions (λ (edition : Published). edition.facts) in
    ap (λ (j : Journal). j.facts) (sym (same_lawful old new is)) ∙ front ∙ take_all (length old.facts) (facts_of editions) (omega (arith, same, many))

-- the facts of a journal that is replayed to its end are those of the editions
pub facts_replayed : (editions : List Published) (number : ℕ) (values : List LineValue) (old new : Journal) → old.facts ≡ take (length old.facts) (facts_of editions)
    → replay editions number values old ≡ Lawful new → new.facts ≡ facts_of editions
unfolding replay
facts_replayed editions number [] old new front is = ended editions (length old.facts == length editions) number old new front refl is
facts_replayed editions number (value ∷ values) old new front is =
    after_line (with_line editions value old) refl is (λ next kept more. facts_replayed editions (number + 1) values next new kept more)
  where
    after_line : (found : Option Journal) → with_line editions value old ≡ found → or_wrong number (replay editions (number + 1) values) found ≡ Lawful new
        → ((next : Journal) → next.facts ≡ take (length next.facts) (facts_of editions) → replay editions (number + 1) values next ≡ Lawful new → new.facts ≡ facts_of editions)
        → new.facts ≡ facts_of editions
    after_line None same is again = absurd (cc)
    after_line (Some next) same is again = again next (front_kept editions value old next front same) is

-- ---- numbers

numbers_from : (number : ℕ) (config : Configuration) (commands : List Command) (editions : List Published) → AreEditionsFrom number config commands editions
    → map (λ (facts : Facts). facts.number) (facts_of editions) ≡ map (λ (edition : Published). edition.number) editions
numbers_from number config commands [] are = absurd are
numbers_from number config [] (edition ∷ []) are = ap (λ (n : ℕ). n ∷ []) are.factual.numbered
numbers_from number config [] (edition ∷ next ∷ editions) are = absurd are
numbers_from number config (command ∷ commands) (edition ∷ editions) are =
    ap (λ (n : ℕ). n ∷ map (λ (facts : Facts). facts.number) (facts_of editions)) are.0.factual.numbered
    ∙ ap (λ (ns : List ℕ). edition.number ∷ ns) (numbers_from (number + 1) are.1 commands editions are.3)

-- the journal that lines tell to its end is that of the editions
pub published_each : (config : Configuration) (commands : List Command) (editions : List Published) (values : List LineValue) (journal : Journal) → AreEditions config commands editions
    → replay editions 1 values no_journal ≡ Lawful journal → IsJournal journal → IsPublished editions journal
published_each config commands editions values journal made replayed is =
    let facts : journal.facts ≡ facts_of editions = facts_replayed editions 1 values no_journal journal refl replayed in
    record {
      factual = sym facts;
      once = is.published ∙ ap (map (λ (f : Facts). f.number)) facts ∙ numbers_from 1 config commands editions made;
    }
