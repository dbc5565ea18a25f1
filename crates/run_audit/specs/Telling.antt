-- What is kept of a report while its lines are read.
use Rattle.std.specs.Prelude.{◌≡◌, ⊤, ℕ, ◌+◌, ◌≤◌, unwrap_or, Option, Some, None, List, [], ◌++◌, length, map, take}
use Rattle.std.specs.Arc.{arc_value}
use Rattle.fw_world.specs.Publications.{facts_of}
use Rattle.generation_store.specs.Published.{Published}
use Rattle.report_reading.specs.Readings.{LineValue}
use Rattle.state_journal.specs.Journal.{Journal}
use Rattle.run_audit.specs.JournalTold.{Lawful, at_the_end, no_journal, with_line}
use Rattle.run_audit.specs.ToldReport.{with_record, with_lane, with_ask_line}
use Rattle.run_audit.specs.declared.telling.Telling.{Telling}
use Rattle.run_audit.specs.declared.told_report.ToldReport.{ToldReport}

-- the journal so far; a book begins with the first publication
abbrev pub journal_of : Option Journal → Journal
journal_of book = unwrap_or book no_journal

-- a journal of 16 lanes, whose publications are the first of these editions
pub record IsBegunUnder (editions : List Published) (journal : Journal) : Type 0 where
  pub lanes : journal.lanes ≡ 16
  pub some : 1 ≤ length journal.facts
  pub front : journal.facts ≡ take (length journal.facts) (facts_of editions)

-- so it is with a book that has begun
abbrev pub IsUnder : List Published → Option Journal → Type 0
IsUnder editions None = ⊤
IsUnder editions (Some journal) = IsBegunUnder editions journal

-- the line of this number is taken in, which tells this
pub record TakesLine (editions : List Published) (number : ℕ) (value : LineValue) (old new : Telling) : Type 0 where
  pub replayed : with_line editions value (journal_of old.book) ≡ Some (journal_of new.book)
  pub records : new.records.items ≡ old.records.items ++ with_record number value []
  pub lanes : new.lanes.items ≡ old.lanes.items ++ with_lane number value []
  pub asks : new.ask_lines.items ≡ old.ask_lines.items ++ with_ask_line number value []

-- All lines were read, and the last one stands before this number: what is told is what was kept.
pub record IsClosed (editions : List Published) (line : ℕ) (telling : Telling) (told : ToldReport) : Type 0 where
  pub journal : at_the_end editions line (journal_of telling.book) ≡ Lawful told.book
  pub records : told.records.items ≡ telling.records.items
  pub lanes : told.lanes.items ≡ telling.lanes.items
  pub asks : told.ask_lines.items ≡ telling.ask_lines.items
  pub lines : told.lines + 1 ≡ line
  pub published : map arc_value told.editions.items ≡ editions
