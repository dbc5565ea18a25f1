-- The asks of a journal that is replayed are those that the lines tell, in their order.
use Rattle.std.proofs.Common.{◌≡◌, ℕ, zero, suc, ◌+◌, ◌-◌, ◌≤◌, ◌==◌, true, false, Bool, Option, Some, None, List, [], ◌∷◌, ◌++◌, length, refl, sym, ap, ◌∙◌, arith, append_assoc, if◌then◌else◌}
use Rattle.std.specs.Prelude.{slice_get}
use Rattle.std.proofs.lemmas.List.{append-nil}
use Rattle.dyn_states.specs.StateObject.{reply_of}
use Rattle.generation_store.specs.Published.{Published}
use Rattle.report_reading.specs.AskLines.{AskValue}
use Rattle.report_reading.specs.Readings.{LineValue, OfRecord, OfPublication, OfAsk, OfLane, OfOther}
use Rattle.fw_base.specs.Chain.{◌>>=◌}
use Rattle.state_asks.specs.declared.op.Op.{Op}
use Rattle.state_journal.specs.Journal.{Journal, with_ask, with_publication}
use Rattle.state_journal.specs.declared.entry.Entry.{Entry}
use Rattle.state_journal.specs.declared.entry.Entry.TheVariants.{Publish, Ask}
use Rattle.run_audit.specs.AskNames.{AskName, names_in, with_name, names_told}
use Rattle.run_audit.specs.JournalTold.{Lawful, WrongAt, answered_as, edition_in_force, or_wrong, published_under, replay, with_line}
use Rattle.run_audit.specs.ToldAsks.{op_under, are_told_alike}
use Rattle.run_audit.specs.ToldReport.{ask_lines_from}

names-append : (front back : List Entry) → names_in (front ++ back) ≡ names_in front ++ names_in back
names-append [] back = refl
names-append (Publish number ∷ front) back = names-append front back
names-append (Ask lane op reply at ∷ front) back = ap (λ (names : List AskName). record { lane = lane; at = at } ∷ names) (names-append front back)

-- one journal is there
pub same_journal : (a b : Journal) → Some a ≡ Some b → a ≡ b
same_journal a b is = cc

-- this journal has one name more, or none
abbrev Grows : List AskName → Journal → Journal → Type 0
Grows names old new = names_in new.entries ≡ names_in old.entries ++ names

stays : (old new : Journal) → old ≡ new → Grows [] old new
stays old new is = ap (λ (j : Journal). names_in j.entries) (sym is) ∙ sym (append-nil (names_in old.entries))

published : (found : Option Published) (number : ℕ) (old new : Journal) → (found >>= published_under number old) ≡ Some new → Grows [] old new
published None number old new is = absurd (cc)
published (Some edition) number old new is = decided (edition.number == number) is
  where
    decided : (b : Bool) → (if b then Some (with_publication old edition.facts) else None) ≡ Some new → names_in new.entries ≡ names_in old.entries ++ []
    decided false is = absurd (cc)
    decided true is =
        ap (λ (j : Journal). names_in j.entries) (sym (same_journal (with_publication old edition.facts) new is))
        ∙ names-append old.entries (Publish edition.facts.number ∷ [])

asked : (found : Option Op) (told : AskValue) (old new : Journal) → (found >>= answered_as told old) ≡ Some new → Grows (record { lane = told.lane; at = told.at } ∷ []) old new
asked None told old new is = absurd (cc)
asked (Some op) told old new is = decided (are_told_alike (reply_of old.object op) told.reply) is
  where
    decided : (b : Bool) → (if b then Some (with_ask old told.lane told.at op (reply_of old.object op)) else None) ≡ Some new
        → names_in new.entries ≡ names_in old.entries ++ record { lane = told.lane; at = told.at } ∷ []
    decided false is = absurd (cc)
    decided true is =
        ap (λ (j : Journal). names_in j.entries) (sym (same_journal (with_ask old told.lane told.at op (reply_of old.object op)) new is))
        ∙ names-append old.entries (Ask told.lane op (reply_of old.object op) told.at ∷ [])

asked_under : (found : Option Published) (told : AskValue) (old new : Journal) → (found >>= λ (edition : Published). op_under edition told.op told.name >>= answered_as told old) ≡ Some new
    → Grows (record { lane = told.lane; at = told.at } ∷ []) old new
asked_under None told old new is = absurd (cc)
asked_under (Some edition) told old new is = asked (op_under edition told.op told.name) told old new is

-- a line's ask is entered, and nothing else
grown : (editions : List Published) (value : LineValue) (old new : Journal) → with_line editions value old ≡ Some new → Grows (with_name value []) old new
grown editions (OfRecord told) old new is = stays old new (same_journal old new is)
grown editions (OfPublication number) old new is = published (slice_get editions (length old.facts)) number old new is
grown editions (OfAsk told) old new is = asked_under (edition_in_force editions old.facts) told old new is
grown editions (OfLane told) old new is = stays old new (same_journal old new is)
grown editions OfOther old new is = stays old new (same_journal old new is)

name_first : (value : LineValue) (names : List AskName) → with_name value [] ++ names ≡ with_name value names
name_first (OfRecord told) names = refl
name_first (OfPublication number) names = refl
name_first (OfAsk told) names = refl
name_first (OfLane told) names = refl
name_first OfOther names = refl

ended : (b : Bool) (line : ℕ) (old new : Journal) → (if b then Lawful old else WrongAt line) ≡ Lawful new → old ≡ new
ended false line old new is = absurd (cc)
ended true line old new is = cc

-- the asks of the journal that lines tell are those of the lines
pub names_replayed : (editions : List Published) (number : ℕ) (values : List LineValue) (old new : Journal) → replay editions number values old ≡ Lawful new
    → names_in new.entries ≡ names_in old.entries ++ names_told values
unfolding replay
names_replayed editions number [] old new is = stays old new (ended (length old.facts == length editions) number old new is)
names_replayed editions number (value ∷ values) old new is =
    after_line (with_line editions value old) refl is (λ next more. names_replayed editions (number + 1) values next new more)
  where
    after_line : (found : Option Journal) → with_line editions value old ≡ found → or_wrong number (replay editions (number + 1) values) found ≡ Lawful new
        → ((next : Journal) → replay editions (number + 1) values next ≡ Lawful new → names_in new.entries ≡ names_in next.entries ++ names_told values)
        → names_in new.entries ≡ names_in old.entries ++ names_told (value ∷ values)
    after_line None same is again = absurd (cc)
    after_line (Some next) same is again =
        again next is
        ∙ ap (λ (names : List AskName). names ++ names_told values) (grown editions value old next same)
        ∙ append_assoc (names_in old.entries) (with_name value []) (names_told values)
        ∙ ap (λ (names : List AskName). names_in old.entries ++ names) (name_first value (names_told values))

-- a line that tells an ask, by the number of the first line
pub record IsAskLine (number : ℕ) (values : List LineValue) (line : ℕ) (name : AskName) : Type 0 where
  pub told : AskValue
  pub behind : number ≤ line
  pub here : slice_get values (line - number) ≡ Some (OfAsk told)
  pub named : name ≡ record { lane = told.lane; at = told.at }

further : (number : ℕ) (value : LineValue) (values : List LineValue) (line : ℕ) (name : AskName) → IsAskLine (number + 1) values line name → IsAskLine number (value ∷ values) line name
further number value values line name is =
    let behind = is.behind in
    let place : line - number ≡ suc (line - (number + 1)) = omega (arith, behind) in
    record {
      told = is.told;
      behind = omega (arith, behind);
      here = ap (slice_get (value ∷ values)) place ∙ is.here;
      named = is.named;
    }

-- the line that is kept for an ask is that of the ask in the same place
pub ask_line_at : (number : ℕ) (values : List LineValue) (i line : ℕ) (name : AskName) → slice_get (ask_lines_from number values) i ≡ Some line → slice_get (names_told values) i ≡ Some name
    → IsAskLine number values line name
unfolding ask_lines_from
ask_line_at number [] i line name is named = absurd (cc)
ask_line_at number (OfRecord told ∷ values) i line name is named = further number (OfRecord told) values line name (ask_line_at (number + 1) values i line name is named)
ask_line_at number (OfPublication edition ∷ values) i line name is named = further number (OfPublication edition) values line name (ask_line_at (number + 1) values i line name is named)
ask_line_at number (OfAsk told ∷ values) zero line name is named =
    let same : number ≡ line = cc in
    let place : line - number ≡ 0 = omega (arith, same) in
    record {
      told = told;
      behind = omega (arith, same);
      here = ap (slice_get (OfAsk told ∷ values)) place;
      named = cc;
    }
ask_line_at number (OfAsk told ∷ values) (suc i) line name is named = further number (OfAsk told) values line name (ask_line_at (number + 1) values i line name is named)
ask_line_at number (OfLane told ∷ values) i line name is named = further number (OfLane told) values line name (ask_line_at (number + 1) values i line name is named)
ask_line_at number (OfOther ∷ values) i line name is named = further number OfOther values line name (ask_line_at (number + 1) values i line name is named)

-- there is one line for each ask
pub one_line_each : (number : ℕ) (values : List LineValue) → length (ask_lines_from number values) ≡ length (names_told values)
unfolding ask_lines_from
one_line_each number [] = refl
one_line_each number (OfRecord told ∷ values) = one_line_each (number + 1) values
one_line_each number (OfPublication edition ∷ values) = one_line_each (number + 1) values
one_line_each number (OfAsk told ∷ values) = ap suc (one_line_each (number + 1) values)
one_line_each number (OfLane told ∷ values) = one_line_each (number + 1) values
one_line_each number (OfOther ∷ values) = one_line_each (number + 1) values
