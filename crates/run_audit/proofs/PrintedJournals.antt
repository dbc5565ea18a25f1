-- A report whose journal is lawful passes: its lines have their form, and its journal is replayed.
use Rattle.std.proofs.Common.{◌≡◌, ℕ, ◌+◌, ◌==◌, true, Option, Some, None, List, [], ◌∷◌, ◌++◌, length, map, refl, sym, ap, ◌∙◌, arith, length-append}
use Rattle.std.specs.Prelude.{unwrap_or}
use Rattle.std.specs.List.{flat_map, AllByRecursion}
use Rattle.std.proofs.lemmas.List.{append-nil}
use Rattle.eval_engine.specs.Dockets.{DocketValue}
use Rattle.report_texts.specs.JournalText.{entry_line, journal_heading, journal_text, lanes_text}
use Rattle.fw_base.specs.Chain.{or_else}
use Rattle.fw_world.specs.Publications.{facts_of}
use Rattle.generation_store.specs.Published.{Published}
use Rattle.report_reading.specs.Lines.{lines_with_ends}
use Rattle.report_reading.specs.Readings.{LineValue, OfOther, reading_of}
use Rattle.dyn_states.specs.StateObject.{StateObject, after_ask}
use Rattle.state_journal.specs.Journal.{Journal, IsLawfulFrom, no_states, object_after_publication, with_ask, with_publication}
use Rattle.state_journal.specs.declared.entry.Entry.{Entry}
use Rattle.state_journal.specs.declared.entry.Entry.TheVariants.{Publish, Ask}
use Rattle.run_audit.specs.Forms.{first_unformed}
use Rattle.run_audit.specs.JournalTold.{ToldJournal, Lawful, at_the_end, no_journal, replay, wrong_line}
use Rattle.run_audit.specs.Opening.{unformed_line, unlawful_line}
use Rattle.run_audit.specs.PrintedJournals.{AreApart, AreAskable, ArePrintableLanes, IsPrintable, PrintedJournalsPass, entered, entry_value}
use Rattle.run_audit.specs.ToldReport.{lines_told, told_by}
use Rattle.run_audit.proofs.JournalLines.{entries_tell, lane_values, lanes_tell}
use Rattle.run_audit.proofs.JournalSteps.{complete}
use Rattle.run_audit.proofs.LightTexts.{heading_tells}
use Rattle.run_audit.proofs.ReplayAgain.{apart_passed, entries_again}
use Rattle.run_audit.proofs.ToldTexts.{TellsAs, read_values, readings, tells_both}

-- ---- the form

all_formed : (number : ℕ) (lines : List (List ℕ)) (values : List LineValue) → map reading_of lines ≡ read_values values → first_unformed number lines ≡ None
unfolding first_unformed
all_formed number [] values is = refl
all_formed number (line ∷ lines) [] is = absurd (cc)
all_formed number (line ∷ lines) (value ∷ values) is =
    let here : reading_of line ≡ Some value = cc in
    let more : map reading_of lines ≡ read_values values = cc in
    rw here (all_formed (number + 1) lines values more)

all_told : (lines : List (List ℕ)) (values : List LineValue) → map reading_of lines ≡ read_values values → map told_by lines ≡ values
all_told [] [] is = refl
all_told [] (value ∷ values) is = absurd (cc)
all_told (line ∷ lines) [] is = absurd (cc)
all_told (line ∷ lines) (value ∷ values) is =
    let here : reading_of line ≡ Some value = cc in
    let more : map reading_of lines ≡ read_values values = cc in
    ap (λ (found : Option LineValue). unwrap_or found OfOther ∷ map told_by lines) here ∙ ap (λ (vs : List LineValue). value ∷ vs) (all_told lines values more)

nothing_behind : readings [] ≡ []
unfolding lines_with_ends
nothing_behind = refl

all_read : (text : List ℕ) (values : List LineValue) → TellsAs text values → readings text ≡ read_values values
all_read text values tells =
    ap (λ (bytes : List ℕ). readings bytes) (sym (append-nil text)) ∙ tells []
    ∙ ap (λ (rest : List (Option LineValue)). read_values values ++ rest) nothing_behind ∙ append-nil (read_values values)

-- a text whose lines tell something has the form of a report
pub formed : (text : List ℕ) (values : List LineValue) → TellsAs text values → unformed_line text ≡ None
formed text values tells = all_formed 1 (lines_with_ends text) values (all_read text values tells)

-- and its lines tell that
pub told : (text : List ℕ) (values : List LineValue) → TellsAs text values → lines_told text ≡ values
told text values tells = all_told (lines_with_ends text) values (all_read text values tells)

-- ---- the journal

-- all editions were published
entered_facts : (rest : List Published) (entries : List Entry) (object : StateObject) (journal : Journal) → IsLawfulFrom object (facts_of rest) entries
    → length (entered rest entries journal).facts ≡ length journal.facts + length rest
entered_facts [] [] object journal lawful = omega arith
entered_facts (next ∷ rest) [] object journal lawful = absurd lawful
entered_facts [] (Publish number ∷ entries) object journal lawful = absurd lawful
entered_facts (next ∷ rest) (Publish number ∷ entries) object journal lawful =
    let longer : length (journal.facts ++ next.facts ∷ []) ≡ length journal.facts + 1 = length-append journal.facts (next.facts ∷ []) in
    let more : length (entered rest entries (with_publication journal next.facts)).facts ≡ length (journal.facts ++ next.facts ∷ []) + length rest =
    entered_facts rest entries (object_after_publication object next.facts) (with_publication journal next.facts) lawful.1 in
    omega (arith, more, longer)
entered_facts [] (Ask lane op reply at ∷ entries) object journal lawful = entered_facts [] entries (after_ask object op) (with_ask journal lane at op reply) lawful.1
entered_facts (next ∷ rest) (Ask lane op reply at ∷ entries) object journal lawful =
    entered_facts (next ∷ rest) entries (after_ask object op) (with_ask journal lane at op reply) lawful.1

same_number : (m n : ℕ) → m ≡ n → (m == n) ≡ true
same_number m n same = grind (arith, same)

ended : (editions : List Published) (number : ℕ) (journal : Journal) → replay editions number [] journal ≡ at_the_end editions number journal
unfolding replay
ended editions number journal = refl

apart_alone : (editions : List Published) (number : ℕ) (values : List LineValue) (journal : Journal) → AreApart values
    → replay editions number values journal ≡ replay editions (number + length values) [] journal
apart_alone editions number values journal are =
    ap (λ (vs : List LineValue). replay editions number vs journal) (sym (append-nil values)) ∙ apart_passed editions number values [] journal are

-- The lines of a lawful journal, between lines that are none of a journal's, are replayed as that journal.
pub journal_replayed : (names : List (List ℕ)) (editions : List Published) (entries : List Entry) (front back : List LineValue) → IsLawfulFrom no_states (facts_of editions) entries
    → AreAskable names None editions entries → AreApart front → AreApart back
    → replay editions 1 (front ++ (map (entry_value names) entries ++ back)) no_journal ≡ Lawful (entered editions entries no_journal)
journal_replayed names editions entries front back lawful askable before behind =
    let journal : Journal = entered editions entries no_journal in
    let first : ℕ = 1 + length front in
    let last : ℕ = first + length entries in
    let count = entered_facts editions entries no_states no_journal lawful in
    let published : length journal.facts ≡ length editions = omega (arith, count) in
    apart_passed editions 1 front (map (entry_value names) entries ++ back) no_journal before
    ∙ entries_again names [] editions first entries back no_journal refl lawful askable
    ∙ apart_alone editions last back journal behind
    ∙ ended editions (last + length back) journal
    ∙ complete editions (last + length back) journal (same_number (length journal.facts) (length editions) published)

-- the lines of lanes stand apart
pub lanes_apart : (lane : ℕ) (dockets : List DocketValue) (trackers : List ℕ) → AreApart (lane_values lane dockets trackers)
lanes_apart lane [] trackers = tt
lanes_apart lane (docket ∷ dockets) [] = tt
lanes_apart lane (docket ∷ dockets) (tracker ∷ trackers) = (tt, lanes_apart (lane + 1) dockets trackers)

journal_tells : (names : List (List ℕ)) (entries : List Entry) (dockets : List DocketValue) (trackers : List ℕ) → AllByRecursion (IsPrintable names) entries → ArePrintableLanes 1 dockets trackers
    → TellsAs (journal_text names entries dockets trackers) (OfOther ∷ [] ++ (map (entry_value names) entries ++ lane_values 1 dockets trackers))
unfolding journal_text
journal_tells names entries dockets trackers printable lanes =
    tells_both (journal_heading (length entries)) (flat_map (entry_line names) entries ++ lanes_text 1 dockets trackers) (OfOther ∷ [])
    (map (entry_value names) entries ++ lane_values 1 dockets trackers) (heading_tells (length entries))
    (tells_both (flat_map (entry_line names) entries) (lanes_text 1 dockets trackers) (map (entry_value names) entries) (lane_values 1 dockets trackers) (entries_tell names entries printable)
    (lanes_tell 1 dockets trackers lanes))

-- what is printed of a lawful journal passes
pub printed_journals_pass : PrintedJournalsPass
printed_journals_pass = λ names editions entries dockets trackers lawful askable printable lanes.
    let text : List ℕ = journal_text names entries dockets trackers in
    let back : List LineValue = lane_values 1 dockets trackers in
    let values : List LineValue = OfOther ∷ [] ++ (map (entry_value names) entries ++ back) in
    let tells : TellsAs text values = journal_tells names entries dockets trackers printable lanes in
    let none_unformed : unformed_line text ≡ None = formed text values tells in
    let replayed : replay editions 1 (lines_told text) no_journal ≡ Lawful (entered editions entries no_journal) =
    ap (λ (vs : List LineValue). replay editions 1 vs no_journal) (told text values tells)
    ∙ journal_replayed names editions entries (OfOther ∷ []) back lawful askable (tt, tt) (lanes_apart 1 dockets trackers) in
    ap (λ (o : Option ℕ). or_else o (unlawful_line editions text)) none_unformed ∙ ap (λ (t : ToldJournal). wrong_line t) replayed
