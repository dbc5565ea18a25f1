-- The lines of a whole report, and what they tell.
use Rattle.std.proofs.Common.{◌≡◌, ℕ, ◌+◌, ◌≤◌, true, Option, Some, None, List, [], ◌∷◌, ◌++◌, length, map, sym, ap, subst, ◌∙◌, arith, append_assoc}
use Rattle.std.specs.List.{flat_map, AllByRecursion}
use Rattle.std.specs.Prelude.{IfSome}
use Rattle.report_texts.specs.AnswerText.{answers_text}
use Rattle.report_texts.specs.DocketText.{captures_text}
use Rattle.report_texts.specs.JournalText.{entry_line, hits_text, journal_heading, journal_text, lanes_text}
use Rattle.report_texts.specs.Report.{closing_text, last_closing, last_edition, last_text, report_text, start_text}
use Rattle.report_texts.specs.RulesText.{editions_line}
use Rattle.report_texts.specs.declared.capture_end.CaptureEnd.{CaptureEnd}
use Rattle.report_texts.specs.declared.ends.LineAnswer.{LineAnswer}
use Rattle.fw_world.specs.Inputs.{Input}
use Rattle.fw_world.specs.RecordValue.{RecordValue}
use Rattle.generation_store.specs.Published.{Published}
use Rattle.report_reading.specs.Readings.{LineValue}
use Rattle.rule_chain.specs.Configuration.{Configuration}
use Rattle.run_audit.proofs.JournalLines.{entries_tell, lane_values, lanes_tell}
use Rattle.run_audit.proofs.LightTexts.{editions_tell, heading_tells}
use Rattle.run_audit.proofs.ToldTexts.{TellsAs, tells_both}
use Rattle.run_audit.specs.PrintedJournals.{ArePrintableLanes, IsPrintable, entry_value}
use Rattle.audit_laws.proofs.AnswerLines.{nothing_of_answers}
use Rattle.audit_laws.proofs.CaptureLines.{captures_tell, captures_values}
use Rattle.audit_laws.proofs.Configs.{of_last}
use Rattle.audit_laws.proofs.Judgements.{IsDocketInRange}
use Rattle.audit_laws.proofs.LastLines.{nothing_of_last}
use Rattle.audit_laws.proofs.ToldNothing.{TellsNothing, nothing_of_both, nothing_of_none, others, others-append, tells_same}
use Rattle.capture_tracks.specs.Reported.{report_record}
use Rattle.audit_laws.specs.Printable.{IsPrintableConfig, IsPrintableRecord, last_names, names_of, report_of}

-- what the lines of a journal's entries and of its lanes tell
abbrev pub journal_values : List (List ℕ) → RecordValue → List LineValue
journal_values names r = map (entry_value names) r.journal.entries ++ lane_values 1 r.dockets r.trackers

-- what the lines of a report tell, with so many lines between its captures and its journal that tell nothing
abbrev pub report_values : ℕ → RecordValue → List CaptureEnd → List LineValue
report_values between r ends = captures_values 1 r.dockets ends ++ (others between ++ journal_values (last_names r) r)

-- its lines tell the captures' records, the journal and the lanes, and nothing else
pub record IsTelling (r : RecordValue) (ends : List CaptureEnd) (report : List ℕ) : Type 0 where
  pub between : ℕ
  pub tells : TellsAs report (report_values between r ends)

-- ---- the sections

editions_nothing : (count : ℕ) → TellsNothing (editions_line count)
editions_nothing count = record { lines = 1; tells = editions_tell count }

heading_nothing : (count : ℕ) → TellsNothing (journal_heading count)
heading_nothing count = record { lines = 1; tells = heading_tells count }

no_hits : (hits : List ℕ) → hits ≡ [] → TellsNothing (hits_text 1 hits)
unfolding hits_text
no_hits [] none = nothing_of_none
no_hits (first ∷ hits) none = absurd (cc)

-- what nothing tells in front of a text that tells something
before_told : (front back : List ℕ) (values : List LineValue) → (nothing : TellsNothing front) → TellsAs back values → TellsAs (front ++ back) (others nothing.lines ++ values)
before_told front back values nothing tells = tells_both front back (others nothing.lines) values nothing.tells tells

more_before : (m n : ℕ) (values : List LineValue) → others m ++ (others n ++ values) ≡ others (m + n) ++ values
more_before m n values = sym (append_assoc (others m) (others n) values) ∙ ap (λ (os : List LineValue). os ++ values) (others-append m n)

lanes_and_entries : (names : List (List ℕ)) (r : RecordValue) → AllByRecursion (IsPrintable names) r.journal.entries → ArePrintableLanes 1 r.dockets r.trackers
    → TellsAs (flat_map (entry_line names) r.journal.entries ++ lanes_text 1 r.dockets r.trackers) (journal_values names r)
lanes_and_entries names r entries lanes =
    tells_both (flat_map (entry_line names) r.journal.entries) (lanes_text 1 r.dockets r.trackers) (map (entry_value names) r.journal.entries) (lane_values 1 r.dockets r.trackers)
    (entries_tell names r.journal.entries entries) (lanes_tell 1 r.dockets r.trackers lanes)

-- What the sections behind the start tell.
record ClosingTells (r : RecordValue) (names : List (List ℕ)) (text : List ℕ) : Type 0 where
  lines : ℕ
  tells : TellsAs text (others lines ++ journal_values names r)

closing_tells : (r : RecordValue) (config : Configuration) → r.hits ≡ [] → IsPrintableConfig config → AllByRecursion (λ state. state.rule.number ≤ 65535) r.journal.object.states
    → AllByRecursion (IsPrintable config.names) r.journal.entries → ArePrintableLanes 1 r.dockets r.trackers → ClosingTells r config.names (closing_text (report_record r) true config)
unfolding closing_text journal_text
closing_tells r config none is states entries lanes =
    let body : List ℕ = flat_map (entry_line config.names) r.journal.entries ++ lanes_text 1 r.dockets r.trackers in
    let values : List LineValue = journal_values config.names r in
    let first = nothing_of_last config r.tallies r.journal.object is states in
    let second = no_hits r.hits none in
    let third = heading_nothing (length r.journal.entries) in
    let heading : TellsAs (journal_heading (length r.journal.entries) ++ body) (others third.lines ++ values) =
    before_told (journal_heading (length r.journal.entries)) body values third (lanes_and_entries config.names r entries lanes) in
    let hits : TellsAs (hits_text 1 r.hits ++ (journal_heading (length r.journal.entries) ++ body)) (others second.lines ++ (others third.lines ++ values)) =
    before_told (hits_text 1 r.hits) _ _ second heading in
    let all : TellsAs (last_text config r.tallies r.journal.object ++ (hits_text 1 r.hits ++ (journal_heading (length r.journal.entries) ++ body))) (others first.lines ++ (others second.lines ++ (others third.lines ++ values))) =
    before_told (last_text config r.tallies r.journal.object) _ _ first hits in
    let same : others first.lines ++ (others second.lines ++ (others third.lines ++ values)) ≡ others (first.lines + (second.lines + third.lines)) ++ values =
    ap (λ (vs : List LineValue). others first.lines ++ vs) (more_before second.lines third.lines values) ∙ more_before first.lines (second.lines + third.lines) values in
    record { lines = first.lines + (second.lines + third.lines); tells = tells_same _ _ _ same all }

-- What the whole closing tells, by the last edition.
by_last : (r : RecordValue) (last : Option Published) → (edition : Published) × (last ≡ Some edition) → r.hits ≡ [] → IfSome last (λ one. IsPrintableConfig one.config)
    → AllByRecursion (λ state. state.rule.number ≤ 65535) r.journal.object.states → AllByRecursion (IsPrintable (names_of last)) r.journal.entries → ArePrintableLanes 1 r.dockets r.trackers
    → ClosingTells r (names_of last) (last_closing (report_record r) true last)
by_last r None some none is states entries lanes = absurd (cc)
by_last r (Some edition) some none is states entries lanes = closing_tells r edition.config none is states entries lanes

-- the lines of a report tell its captures' records, its journal and its lanes
pub report_tells : (r : RecordValue) (ends : List CaptureEnd) (answers : List LineAnswer) (inputs : List (List Input)) → IsPrintableRecord inputs r ends answers → (edition : Published) × (last_edition r.editions ≡ Some edition)
    → AllByRecursion IsDocketInRange r.dockets → AllByRecursion (λ state. state.rule.number ≤ 65535) r.journal.object.states → AllByRecursion (IsPrintable (last_names r)) r.journal.entries → ArePrintableLanes 1 r.dockets r.trackers → IsTelling r ends (report_of r ends answers)
unfolding report_text start_text
report_tells r ends answers inputs is some dockets states entries lanes =
    let few = is.captures in
    let captures : TellsAs (captures_text 1 r.dockets ends) (captures_values 1 r.dockets ends) = captures_tell 1 r.dockets ends (omega arith) (omega (arith, few)) dockets in
    let middle : List ℕ = answers_text r.editions answers ++ editions_line (length r.editions) in
    let nothing : TellsNothing middle = nothing_of_both (answers_text r.editions answers) (editions_line (length r.editions)) (nothing_of_answers r.editions answers is.editions is.listings) (editions_nothing (length r.editions)) in
    let closing = by_last r (last_edition r.editions) some is.uncached (of_last (λ (edition : Published). IsPrintableConfig edition.config) r.editions is.editions) states entries lanes in
    let values : List LineValue = journal_values (last_names r) r in
    let rest : List ℕ = last_closing (report_record r) true (last_edition r.editions) in
    let behind : TellsAs (middle ++ rest) (others nothing.lines ++ (others closing.lines ++ values)) = before_told middle rest _ nothing closing.tells in
    let all : TellsAs (captures_text 1 r.dockets ends ++ (middle ++ rest)) (captures_values 1 r.dockets ends ++ (others nothing.lines ++ (others closing.lines ++ values))) =
    tells_both (captures_text 1 r.dockets ends) (middle ++ rest) (captures_values 1 r.dockets ends) _ captures behind in
    let same : captures_text 1 r.dockets ends ++ (middle ++ rest) ≡ (captures_text 1 r.dockets ends ++ middle) ++ rest = sym (append_assoc (captures_text 1 r.dockets ends) middle rest) in
    record {
      between = nothing.lines + closing.lines;
      tells = subst (λ (text : List ℕ). TellsAs text (report_values (nothing.lines + closing.lines) r ends)) same
          (tells_same _ _ _ (ap (λ (vs : List LineValue). captures_values 1 r.dockets ends ++ vs) (more_before nothing.lines closing.lines values)) all);
    }
