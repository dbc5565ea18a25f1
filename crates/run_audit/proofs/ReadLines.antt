-- The lines of a report, read one by one.
use Rattle.std.proofs.Common.{◌≡◌, ℕ, ◌+◌, Option, Some, None, List, [], ◌∷◌, ◌++◌, length, map, refl, sym, ap, subst, ◌∙◌, arith, append_assoc}
use Rattle.std.proofs.lemmas.List.{append-nil}
use Rattle.generation_store.specs.Published.{Published}
use Rattle.report_reading.specs.Lines.{lines_with_ends}
use Rattle.report_reading.specs.Readings.{LineValue, OfRecord, OfPublication, OfAsk, OfLane, OfOther}
use Rattle.state_journal.specs.Journal.{Journal}
use Rattle.run_audit.specs.JournalTold.{no_journal, with_line, or_wrong, at_the_end, replay}
use Rattle.run_audit.specs.Telling.{IsClosed, IsUnder, TakesLine, journal_of}
use Rattle.run_audit.specs.ToldReport.{IsTold, told_by, lines_told, with_record, with_lane, with_ask_line, records_from, lanes_from, ask_lines_from}
use Rattle.run_audit.specs.declared.telling.Telling.{Telling}
use Rattle.run_audit.specs.declared.told_report.ToldLane.{ToldLane}
use Rattle.run_audit.specs.declared.told_report.ToldRecord.{ToldRecord}
use Rattle.run_audit.specs.declared.told_report.ToldReport.{ToldReport}

-- ---- what is kept of a line stands before what is kept of the others

record_first : (number : ℕ) (value : LineValue) (records : List ToldRecord) → with_record number value [] ++ records ≡ with_record number value records
record_first number (OfRecord told) records = refl
record_first number (OfPublication edition) records = refl
record_first number (OfAsk told) records = refl
record_first number (OfLane told) records = refl
record_first number OfOther records = refl

lane_first : (number : ℕ) (value : LineValue) (lanes : List ToldLane) → with_lane number value [] ++ lanes ≡ with_lane number value lanes
lane_first number (OfRecord told) lanes = refl
lane_first number (OfPublication edition) lanes = refl
lane_first number (OfAsk told) lanes = refl
lane_first number (OfLane told) lanes = refl
lane_first number OfOther lanes = refl

ask_first : (number : ℕ) (value : LineValue) (lines : List ℕ) → with_ask_line number value [] ++ lines ≡ with_ask_line number value lines
ask_first number (OfRecord told) lines = refl
ask_first number (OfPublication edition) lines = refl
ask_first number (OfAsk told) lines = refl
ask_first number (OfLane told) lines = refl
ask_first number OfOther lines = refl

records_next : (number : ℕ) (value : LineValue) (values : List LineValue) (old new : List ToldRecord) → new ≡ old ++ with_record number value []
    → new ++ records_from (number + 1) values ≡ old ++ records_from number (value ∷ values)
unfolding records_from
records_next number value values old new is =
    ap (λ (xs : List ToldRecord). xs ++ records_from (number + 1) values) is
    ∙ append_assoc old (with_record number value []) (records_from (number + 1) values)
    ∙ ap (λ (xs : List ToldRecord). old ++ xs) (record_first number value (records_from (number + 1) values))

lanes_next : (number : ℕ) (value : LineValue) (values : List LineValue) (old new : List ToldLane) → new ≡ old ++ with_lane number value []
    → new ++ lanes_from (number + 1) values ≡ old ++ lanes_from number (value ∷ values)
unfolding lanes_from
lanes_next number value values old new is =
    ap (λ (xs : List ToldLane). xs ++ lanes_from (number + 1) values) is
    ∙ append_assoc old (with_lane number value []) (lanes_from (number + 1) values)
    ∙ ap (λ (xs : List ToldLane). old ++ xs) (lane_first number value (lanes_from (number + 1) values))

asks_next : (number : ℕ) (value : LineValue) (values : List LineValue) (old new : List ℕ) → new ≡ old ++ with_ask_line number value []
    → new ++ ask_lines_from (number + 1) values ≡ old ++ ask_lines_from number (value ∷ values)
unfolding ask_lines_from
asks_next number value values old new is =
    ap (λ (xs : List ℕ). xs ++ ask_lines_from (number + 1) values) is
    ∙ append_assoc old (with_ask_line number value []) (ask_lines_from (number + 1) values)
    ∙ ap (λ (xs : List ℕ). old ++ xs) (ask_first number value (ask_lines_from (number + 1) values))

replay_next : (editions : List Published) (number : ℕ) (value : LineValue) (values : List LineValue) (old new : Journal) → with_line editions value old ≡ Some new
    → replay editions (number + 1) values new ≡ replay editions number (value ∷ values) old
unfolding replay
replay_next editions number value values old new is = sym (ap (or_wrong number (replay editions (number + 1) values)) is)

replay_wrong : (editions : List Published) (number : ℕ) (value : LineValue) (values : List LineValue) (old : Journal) → with_line editions value old ≡ None
    → replay editions number (value ∷ values) old ≡ or_wrong number (replay editions (number + 1) values) None
unfolding replay
replay_wrong editions number value values old is = ap (or_wrong number (replay editions (number + 1) values)) is

-- ---- as far as the lines were read

-- The lines before the rest were read, whose first line has this number.
pub record IsReadTo (editions : List Published) (report : List ℕ) (number : ℕ) (rest : List ℕ) (telling : Telling) : Type 0 where
  pub under : IsUnder editions telling.book
  pub replayed : replay editions number (lines_told rest) (journal_of telling.book) ≡ replay editions 1 (lines_told report) no_journal
  pub records : telling.records.items ++ records_from number (lines_told rest) ≡ records_from 1 (lines_told report)
  pub lanes : telling.lanes.items ++ lanes_from number (lines_told rest) ≡ lanes_from 1 (lines_told report)
  pub asks : telling.ask_lines.items ++ ask_lines_from number (lines_told rest) ≡ ask_lines_from 1 (lines_told report)
  pub counted : number + length (lines_with_ends rest) ≡ 1 + length (lines_with_ends report)

-- nothing was read
pub none_read : (editions : List Published) (report : List ℕ) (telling : Telling) → telling.book ≡ None → telling.records.items ≡ [] → telling.lanes.items ≡ [] → telling.ask_lines.items ≡ []
    → IsReadTo editions report 1 report telling
none_read editions report telling book records lanes asks = record {
  under = subst (λ (o : Option Journal). IsUnder editions o) (sym book) tt;
  replayed = ap (λ (o : Option Journal). replay editions 1 (lines_told report) (journal_of o)) book;
  records = ap (λ (xs : List ToldRecord). xs ++ records_from 1 (lines_told report)) records;
  lanes = ap (λ (xs : List ToldLane). xs ++ lanes_from 1 (lines_told report)) lanes;
  asks = ap (λ (xs : List ℕ). xs ++ ask_lines_from 1 (lines_told report)) asks;
  counted = refl;
}

-- one line more was read
pub read_more : (editions : List Published) (report : List ℕ) (number : ℕ) (rest line behind : List ℕ) (old new : Telling) → lines_with_ends rest ≡ line ∷ lines_with_ends behind
    → TakesLine editions number (told_by line) old new → IsUnder editions new.book → IsReadTo editions report number rest old → IsReadTo editions report (number + 1) behind new
read_more editions report number rest line behind old new lines takes under read =
    let values : lines_told rest ≡ told_by line ∷ lines_told behind = ap (map told_by) lines in
    let longer : length (lines_with_ends rest) ≡ length (line ∷ lines_with_ends behind) = ap length lines in
    let counted : number + length (lines_with_ends rest) ≡ 1 + length (lines_with_ends report) = read.counted in
    record {
      under = under;
      replayed = replay_next editions number (told_by line) (lines_told behind) (journal_of old.book) (journal_of new.book) takes.replayed
          ∙ ap (λ (vs : List LineValue). replay editions number vs (journal_of old.book)) (sym values) ∙ read.replayed;
      records = records_next number (told_by line) (lines_told behind) old.records.items new.records.items takes.records
          ∙ ap (λ (vs : List LineValue). old.records.items ++ records_from number vs) (sym values) ∙ read.records;
      lanes = lanes_next number (told_by line) (lines_told behind) old.lanes.items new.lanes.items takes.lanes
          ∙ ap (λ (vs : List LineValue). old.lanes.items ++ lanes_from number vs) (sym values) ∙ read.lanes;
      asks = asks_next number (told_by line) (lines_told behind) old.ask_lines.items new.ask_lines.items takes.asks
          ∙ ap (λ (vs : List LineValue). old.ask_lines.items ++ ask_lines_from number vs) (sym values) ∙ read.asks;
      counted = omega (arith, longer, counted);
    }

-- a line is wrong
pub read_wrong : (editions : List Published) (report : List ℕ) (number : ℕ) (rest line behind : List ℕ) (old : Telling) → lines_with_ends rest ≡ line ∷ lines_with_ends behind
    → with_line editions (told_by line) (journal_of old.book) ≡ None → IsReadTo editions report number rest old
    → replay editions 1 (lines_told report) no_journal ≡ or_wrong number (replay editions (number + 1) (lines_told behind)) None
read_wrong editions report number rest line behind old lines wrong read =
    let values : lines_told rest ≡ told_by line ∷ lines_told behind = ap (map told_by) lines in
    sym read.replayed ∙ ap (λ (vs : List LineValue). replay editions number vs (journal_of old.book)) values
    ∙ replay_wrong editions number (told_by line) (lines_told behind) (journal_of old.book) wrong

none_left : (rest : List ℕ) → rest ≡ [] → lines_told rest ≡ []
unfolding lines_with_ends
none_left rest is = ap lines_told is

-- no line is left
pub all_read : (editions : List Published) (report : List ℕ) (number : ℕ) (rest : List ℕ) (telling : Telling) → rest ≡ [] → IsReadTo editions report number rest telling
    → at_the_end editions number (journal_of telling.book) ≡ replay editions 1 (lines_told report) no_journal
unfolding replay
all_read editions report number rest telling is read =
    sym (ap (λ (vs : List LineValue). replay editions number vs (journal_of telling.book)) (none_left rest is)) ∙ read.replayed

-- so what is told is what the report tells
pub told_all : (editions : List Published) (report : List ℕ) (number : ℕ) (rest : List ℕ) (telling : Telling) (told : ToldReport) → rest ≡ [] → IsReadTo editions report number rest telling
    → IsClosed editions number telling told → IsTold report told
unfolding records_from lanes_from ask_lines_from lines_with_ends
told_all editions report number rest telling told is read closed =
    let lines = closed.lines in
    let none : lines_told rest ≡ [] = none_left rest is in
    let no_line : length (lines_with_ends rest) ≡ 0 = ap (λ (r : List ℕ). length (lines_with_ends r)) is in
    let counted = read.counted in
    record {
      records = closed.records ∙ sym (append-nil telling.records.items) ∙ ap (λ (vs : List LineValue). telling.records.items ++ records_from number vs) (sym none) ∙ read.records;
      lanes = closed.lanes ∙ sym (append-nil telling.lanes.items) ∙ ap (λ (vs : List LineValue). telling.lanes.items ++ lanes_from number vs) (sym none) ∙ read.lanes;
      asks = closed.asks ∙ sym (append-nil telling.ask_lines.items) ∙ ap (λ (vs : List LineValue). telling.ask_lines.items ++ ask_lines_from number vs) (sym none) ∙ read.asks;
      lines = omega (arith, no_line, counted, lines);
      journal = ap (λ (es : List Published). replay es 1 (lines_told report) no_journal) closed.published ∙ sym (all_read editions report number rest telling is read) ∙ closed.journal;
    }
