-- The lines of a lawful journal are replayed as that journal.
use Rattle.std.proofs.Common.{◌≡◌, ℕ, ◌+◌, ◌==◌, true, Option, Some, None, List, [], ◌∷◌, ◌++◌, length, map, refl, sym, ap, subst, ◌∙◌, arith, append_assoc}
use Rattle.std.specs.Prelude.{slice_get}
use Rattle.std.proofs.lemmas.List.{map-append, length-map}
use Rattle.dyn_states.specs.StateObject.{reply_of}
use Rattle.report_texts.specs.AskText.{asked_name}
use Rattle.fw_world.specs.Publications.{facts_of}
use Rattle.generation_store.specs.Published.{Published}
use Rattle.report_reading.specs.AskLines.{printed_ask, printed_op, printed_reply}
use Rattle.report_reading.specs.Readings.{LineValue, OfRecord, OfPublication, OfAsk, OfLane, OfOther}
use Rattle.fw_base.specs.Chain.{◌>>=◌}
use Rattle.state_asks.specs.declared.facts.Facts.{Facts}
use Rattle.state_asks.specs.declared.op.Op.{Op}
use Rattle.state_asks.specs.declared.reply.Reply.{Reply}
use Rattle.state_asks.specs.declared.reply.Reply.TheVariants as replies
use Rattle.state_journal.specs.Journal.{Journal, IsLawfulFrom, with_ask, with_publication}
use Rattle.state_journal.specs.declared.entry.Entry.{Entry}
use Rattle.state_journal.specs.declared.entry.Entry.TheVariants.{Publish, Ask}
use Rattle.run_audit.specs.PrintedJournals.{IsApart, AreApart, IsAskable, AreAskable, entered, entry_value}
use Rattle.run_audit.proofs.Marks.{told_alike}
use Rattle.run_audit.specs.JournalTold.{answered_as, edition_in_force, or_wrong, published_under, replay, with_line}
use Rattle.run_audit.specs.ToldAsks.{op_under, are_told_alike}
use Rattle.report_reading.proofs.Words.{same_number}

-- ---- lines that the journal has nothing of

apart_stays : (editions : List Published) (value : LineValue) (journal : Journal) → IsApart value → with_line editions value journal ≡ Some journal
apart_stays editions (OfRecord told) journal is = refl
apart_stays editions (OfPublication number) journal is = absurd is
apart_stays editions (OfAsk told) journal is = absurd is
apart_stays editions (OfLane told) journal is = refl
apart_stays editions OfOther journal is = refl

-- one line, and what it leads to
one_replayed : (editions : List Published) (number : ℕ) (value : LineValue) (values : List LineValue) (old new : Journal) → with_line editions value old ≡ Some new
    → replay editions number (value ∷ values) old ≡ replay editions (number + 1) values new
unfolding replay
one_replayed editions number value values old new is = ap (or_wrong number (replay editions (number + 1) values)) is

-- they are passed over
pub apart_passed : (editions : List Published) (number : ℕ) (values more : List LineValue) (journal : Journal) → AreApart values
    → replay editions number (values ++ more) journal ≡ replay editions (number + length values) more journal
apart_passed editions number [] more journal are =
    let same : number ≡ number + 0 = omega arith in
    ap (λ n. replay editions n more journal) same
apart_passed editions number (value ∷ values) more journal are =
    let same : number + 1 + length values ≡ number + length (value ∷ values) = omega arith in
    one_replayed editions number value (values ++ more) journal journal (apart_stays editions value journal are.0)
    ∙ apart_passed editions (number + 1) values more journal are.1 ∙ ap (λ n. replay editions n more journal) same

-- ---- the journal's own lines

published_next : (editions : List Published) (number : ℕ) (journal : Journal) (next : Published) → slice_get editions (length journal.facts) ≡ Some next → number ≡ next.number
    → with_line editions (OfPublication number) journal ≡ Some (with_publication journal next.facts)
published_next editions number journal next found same =
    let test : (next.number == number) ≡ true = ap (λ n. next.number == n) same ∙ same_number next.number in
    ap (λ (o : Option Published). o >>= published_under number journal) found ∙ rw test refl

asked_again : (names : List (List ℕ)) (last : Option Published) (lane at : ℕ) (op : Op) (reply : Reply) (journal : Journal) → IsAskable names last op → reply ≡ reply_of journal.object op
    → (last >>= λ (edition : Published). op_under edition (printed_op op) (asked_name names op) >>= answered_as (printed_ask names lane at op reply) journal)
    ≡ Some (with_ask journal lane at op reply)
asked_again names None lane at op reply journal askable is = absurd askable
asked_again names (Some edition) lane at op reply journal askable is =
    let own : Reply = reply_of journal.object op in
    let alike : are_told_alike own (printed_reply reply) ≡ true = told_alike own (printed_reply reply) (ap (λ (r : Reply). printed_reply r) (sym is) ∙ sym (printed_twice reply)) in
    ap (λ (o : Option Op). o >>= answered_as (printed_ask names lane at op reply) journal) askable
    ∙ rw alike (ap (λ (r : Reply). Some (with_ask journal lane at op r)) (sym is))
  where
    printed_twice : (reply : Reply) → printed_reply (printed_reply reply) ≡ printed_reply reply
    printed_twice (replies.Found way rule) = refl
    printed_twice replies.NotFound = refl
    printed_twice replies.Created = refl
    printed_twice replies.Exists = refl
    printed_twice (replies.LimitReached count) = refl
    printed_twice (replies.TableFull count) = refl

-- the edition that was published last
abbrev pub last_of : List Published → Option Published
last_of [] = None
last_of (edition ∷ []) = Some edition
last_of (edition ∷ next ∷ editions) = last_of (next ∷ editions)

last_pushed : (done : List Published) (next : Published) → last_of (done ++ next ∷ []) ≡ Some next
last_pushed [] next = refl
last_pushed (one ∷ []) next = refl
last_pushed (one ∷ two ∷ done) next = last_pushed (two ∷ done) next

-- what stands behind the first ones
pub seam : (done rest : List Published) (next : Published) → slice_get (done ++ next ∷ rest) (length done) ≡ Some next
seam [] rest next = refl
seam (one ∷ done) rest next = seam done rest next

force_of : (done rest : List Published) → edition_in_force (done ++ rest) (facts_of done) ≡ last_of done
force_of [] rest = refl
force_of (one ∷ []) rest = refl
force_of (one ∷ two ∷ done) rest = force_of (two ∷ done) rest

-- one ask, and then the others
asked_step : (names : List (List ℕ)) (done rest : List Published) (number lane : ℕ) (op : Op) (reply : Reply) (at : ℕ) (entries : List Entry) (more : List LineValue) (journal : Journal)
    → journal.facts ≡ facts_of done → reply ≡ reply_of journal.object op → IsAskable names (last_of done) op
    → replay (done ++ rest) (number + 1) (map (entry_value names) entries ++ more) (with_ask journal lane at op reply)
    ≡ replay (done ++ rest) (number + 1 + length entries) more (entered rest entries (with_ask journal lane at op reply))
    → replay (done ++ rest) number (map (entry_value names) (Ask lane op reply at ∷ entries) ++ more) journal
    ≡ replay (done ++ rest) (number + length (Ask lane op reply at ∷ entries)) more (entered rest entries (with_ask journal lane at op reply))
asked_step names done rest number lane op reply at entries more journal facts is askable again =
    let after : Journal = with_ask journal lane at op reply in
    let force : edition_in_force (done ++ rest) journal.facts ≡ last_of done = ap (edition_in_force (done ++ rest)) facts ∙ force_of done rest in
    let step : with_line (done ++ rest) (OfAsk (printed_ask names lane at op reply)) journal ≡ Some after =
    ap (λ (o : Option Published). o >>= λ (edition : Published). op_under edition (printed_op op) (asked_name names op) >>= answered_as (printed_ask names lane at op reply) journal) force
    ∙ asked_again names (last_of done) lane at op reply journal askable is in
    let same : number + 1 + length entries ≡ number + length (Ask lane op reply at ∷ entries) = omega arith in
    one_replayed (done ++ rest) number (OfAsk (printed_ask names lane at op reply)) (map (entry_value names) entries ++ more) journal after step
    ∙ again ∙ ap (λ n. replay (done ++ rest) n more (entered rest entries after)) same

-- the lines of a journal's entries are replayed as these entries
pub entries_again : (names : List (List ℕ)) (done rest : List Published) (number : ℕ) (entries : List Entry) (more : List LineValue) (journal : Journal) → journal.facts ≡ facts_of done
    → IsLawfulFrom journal.object (facts_of rest) entries → AreAskable names (last_of done) rest entries
    → replay (done ++ rest) number (map (entry_value names) entries ++ more) journal
    ≡ replay (done ++ rest) (number + length entries) more (entered rest entries journal)
entries_again names done rest number [] more journal facts lawful askable =
    let same : number ≡ number + 0 = omega arith in
    ap (λ n. replay (done ++ rest) n more journal) same
entries_again names done [] number (Publish edition ∷ entries) more journal facts lawful askable = absurd askable
entries_again names done (next ∷ rest) number (Publish edition ∷ entries) more journal facts lawful askable =
    let all : (done ++ next ∷ []) ++ rest ≡ done ++ next ∷ rest = append_assoc done (next ∷ []) rest in
    let place : length journal.facts ≡ length done = ap length facts ∙ length-map done (λ (e : Published). e.facts) in
    let found : slice_get (done ++ next ∷ rest) (length journal.facts) ≡ Some next = ap (slice_get (done ++ next ∷ rest)) place ∙ seam done rest next in
    let grown : (with_publication journal next.facts).facts ≡ facts_of (done ++ next ∷ []) =
    ap (λ (fs : List Facts). fs ++ next.facts ∷ []) facts ∙ sym (map-append (λ (e : Published). e.facts) done (next ∷ [])) in
    let later : AreAskable names (last_of (done ++ next ∷ [])) rest entries = subst (λ (o : Option Published). AreAskable names o rest entries) (sym (last_pushed done next)) askable.1 in
    let same : number + 1 + length entries ≡ number + length (Publish edition ∷ entries) = omega arith in
    let after : Journal = with_publication journal next.facts in
    one_replayed (done ++ next ∷ rest) number (OfPublication edition) (map (entry_value names) entries ++ more) journal after (published_next (done ++ next ∷ rest) edition journal next found askable.0)
    ∙ ap (λ (es : List Published). replay es (number + 1) (map (entry_value names) entries ++ more) after) (sym all)
    ∙ entries_again names (done ++ next ∷ []) rest (number + 1) entries more after grown lawful.1 later
    ∙ ap (λ (es : List Published). replay es (number + 1 + length entries) more (entered rest entries after)) all
    ∙ ap (λ n. replay (done ++ next ∷ rest) n more (entered rest entries after)) same
entries_again names done [] number (Ask lane op reply at ∷ entries) more journal facts lawful askable =
    asked_step names done [] number lane op reply at entries more journal facts lawful.0 askable.0
    (entries_again names done [] (number + 1) entries more (with_ask journal lane at op reply) facts lawful.1 askable.1)
entries_again names done (next ∷ rest) number (Ask lane op reply at ∷ entries) more journal facts lawful askable =
    asked_step names done (next ∷ rest) number lane op reply at entries more journal facts lawful.0 askable.0
    (entries_again names done (next ∷ rest) (number + 1) entries more (with_ask journal lane at op reply) facts lawful.1 askable.1)
