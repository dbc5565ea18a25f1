-- The journal of a report beside its printed lines: which journals are told again by the lines that print them.
use Rattle.std.specs.Prelude.{◌≡◌, ℕ, ◌+◌, Option, Some, None, List, [], ◌∷◌}
use Rattle.std.specs.List.{AllByRecursion}
use Rattle.eval_engine.specs.Dockets.{DocketValue}
use Rattle.report_texts.specs.AskText.{asked_name}
use Rattle.report_texts.specs.JournalText.{journal_text}
use Rattle.fw_world.specs.Publications.{facts_of}
use Rattle.generation_store.specs.Published.{Published}
use Rattle.report_reading.specs.AskLines.{IsAsk, printed_ask, printed_op}
use Rattle.report_reading.specs.LaneLines.{IsLane, IsPublication}
use Rattle.report_reading.specs.Readings.{LineValue, OfRecord, OfPublication, OfAsk, OfLane, OfOther}
use Rattle.state_asks.specs.declared.op.Op.{Op}
use Rattle.state_journal.specs.Journal.{Journal, IsLawfulFrom, no_states, with_ask, with_publication}
use Rattle.state_journal.specs.declared.entry.Entry.{Entry}
use Rattle.state_journal.specs.declared.entry.Entry.TheVariants.{Publish, Ask}
use Rattle.run_audit.specs.Opening.{opening_fault}
use Rattle.run_audit.specs.ToldAsks.{op_under}

-- the line is none of the journal's
abbrev pub IsApart : LineValue → Type 0
IsApart (OfRecord told) = Unit {0}
IsApart (OfPublication number) = ⊥
IsApart (OfAsk told) = ⊥
IsApart (OfLane told) = Unit {0}
IsApart OfOther = Unit {0}

-- so it is with all of them
abbrev pub AreApart : List LineValue → Type 0
AreApart [] = Unit {0}
AreApart (value ∷ values) = IsApart value × AreApart values

-- Under the edition in force the line of an ask tells this ask.
abbrev pub IsAskable : List (List ℕ) → Option Published → Op → Type 0
IsAskable names None op = ⊥
IsAskable names (Some edition) op = op_under edition (printed_op op) (asked_name names op) ≡ Some op

-- Each ask is told by its line under the edition that was published last before it, and each publication is that of the
-- next of these editions.
abbrev pub AreAskable : List (List ℕ) → Option Published → List Published → List Entry → Type 0
AreAskable names last rest [] = Unit {0}
AreAskable names last [] (Publish number ∷ entries) = ⊥
AreAskable names last (next ∷ rest) (Publish number ∷ entries) = (number ≡ next.number) × AreAskable names (Some next) rest entries
AreAskable names last rest (Ask lane op reply at ∷ entries) = IsAskable names last op × AreAskable names last rest entries

-- the journal with these entries, which publish the first of these editions
abbrev pub entered : List Published → List Entry → Journal → Journal
entered rest [] journal = journal
entered [] (Publish number ∷ entries) journal = entered [] entries journal
entered (next ∷ rest) (Publish number ∷ entries) journal = entered rest entries (with_publication journal next.facts)
entered rest (Ask lane op reply at ∷ entries) journal = entered rest entries (with_ask journal lane at op reply)

-- an entry in the ranges of its line
abbrev pub IsPrintable : List (List ℕ) → Entry → Type 0
IsPrintable names (Publish number) = IsPublication number
IsPrintable names (Ask lane op reply at) = IsAsk names lane at op reply

-- what the line of an entry tells
abbrev pub entry_value : List (List ℕ) → Entry → LineValue
entry_value names (Publish number) = OfPublication number
entry_value names (Ask lane op reply at) = OfAsk (printed_ask names lane at op reply)

-- lanes in the ranges of their lines, from this lane on
abbrev pub ArePrintableLanes : ℕ → List DocketValue → List ℕ → Type 0
ArePrintableLanes lane [] trackers = Unit {0}
ArePrintableLanes lane (docket ∷ dockets) [] = Unit {0}
ArePrintableLanes lane (docket ∷ dockets) (tracker ∷ trackers) = IsLane lane docket.refused tracker × ArePrintableLanes (lane + 1) dockets trackers

-- What `write_report` prints of a lawful journal passes the first two passes: each ask is told by its line under the
-- edition that was published last before it, and entries and lanes are in the ranges of their lines.
abbrev pub PrintedJournalsPass : Type 0
PrintedJournalsPass =
    (names : List (List ℕ)) (editions : List Published) (entries : List Entry) (dockets : List DocketValue) (trackers : List ℕ) → IsLawfulFrom no_states (facts_of editions) entries
    → AreAskable names None editions entries → AllByRecursion (IsPrintable names) entries → ArePrintableLanes 1 dockets trackers
    → opening_fault editions (journal_text names entries dockets trackers) ≡ None
