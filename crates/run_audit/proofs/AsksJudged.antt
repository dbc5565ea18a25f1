-- Where no line of an ask is left over, each ask of the journal is of a judged record.
use Rattle.std.proofs.Common.{◌≡◌, ℕ, suc, ◌+◌, ◌-◌, ◌≤◌, Option, Some, None, List, [], ◌∷◌, map, refl, sym, ap, ◌∙◌, subst, arith}
use Rattle.std.specs.Prelude.{IsSome, slice_get, unwrap_or}
use Rattle.std.specs.List.{AllByRecursion}
use Rattle.eval_engine.specs.declared.docket_entry.DocketEntry.{DocketEntry}
use Rattle.eval_engine.specs.declared.judgement.Judgement.{Judgement}
use Rattle.generation_store.specs.Published.{Published}
use Rattle.report_reading.proofs.ReadingsTold.{reading_told}
use Rattle.report_reading.specs.Lines.{lines_with_ends}
use Rattle.report_reading.specs.Readings.{LineValue, OfRecord, OfPublication, OfAsk, OfLane, OfOther, IsLineOf, reading_of}
use Rattle.state_journal.specs.Journal.{Journal}
use Rattle.state_journal.specs.declared.entry.Entry.{Entry}
use Rattle.state_journal.specs.declared.entry.Entry.TheVariants.{Publish, Ask}
use Rattle.run_audit.specs.AskNames.{AskName, names_in, names_told}
use Rattle.run_audit.specs.Composition.{IsOfJudgedRecord}
use Rattle.run_audit.specs.JournalTold.{Lawful, no_journal, replay}
use Rattle.run_audit.specs.Judging.{ToldValue}
use Rattle.run_audit.specs.OtherLines.{judgement_at, IsLeftOver}
use Rattle.run_audit.specs.Replaying.{IsAskInRange}
use Rattle.run_audit.specs.ToldReport.{lines_told, told_by}
use Rattle.run_audit.proofs.AskPlaces.{names_replayed}

-- ---- asks that lines tell are in the ranges of their fields

in_range : (line : List ℕ) (value : LineValue) → IsLineOf line value → IsAskInRange value
in_range line (OfRecord told) is = tt
in_range line (OfPublication number) is = tt
in_range line (OfAsk told) is = is.1
in_range line (OfLane told) is = tt
in_range line OfOther is = tt

line_in_range : (line : List ℕ) → IsAskInRange (told_by line)
line_in_range line = by_reading (reading_of line) refl
  where
    by_reading : (found : Option LineValue) → reading_of line ≡ found → IsAskInRange (unwrap_or found OfOther)
    by_reading None is = tt
    by_reading (Some value) is = in_range line value (reading_told line value is)

all_in_range : (lines : List (List ℕ)) → AllByRecursion IsAskInRange (map told_by lines)
all_in_range [] = tt
all_in_range (line ∷ lines) = (line_in_range line, all_in_range lines)

-- ---- their records were judged

-- a record of that name was judged
abbrev IsJudged : List (List DocketEntry) → AskName → Type 0
IsJudged dockets name = (1 ≤ name.lane) × (1 ≤ name.at) × IsSome (judgement_at dockets name.lane name.at)

-- no line is left over; the first of these has this number
abbrev NoneLeft : ToldValue → List (List DocketEntry) → ℕ → List LineValue → Type 0
NoneLeft told dockets number values =
    (other : ℕ) (value : LineValue) → number ≤ other → slice_get values (other - number) ≡ Some value → IsLeftOver told dockets other value → ⊥

none_behind_first : (told : ToldValue) (dockets : List (List DocketEntry)) (number : ℕ) (first : LineValue) (values : List LineValue) → NoneLeft told dockets number (first ∷ values)
    → NoneLeft told dockets (number + 1) values
none_behind_first told dockets number first values none = λ other value from found left.
    let place : other - number ≡ suc (other - (number + 1)) = omega (arith, from) in
    none other value (omega (arith, from)) (ap (λ (n : ℕ). slice_get (first ∷ values) n) place ∙ found) left

first_kept : (told : ToldValue) (dockets : List (List DocketEntry)) (number : ℕ) (first : LineValue) (values : List LineValue) → NoneLeft told dockets number (first ∷ values)
    → IsLeftOver told dockets number first → ⊥
first_kept told dockets number first values none left =
    let place : number - number ≡ 0 = omega arith in
    none number first (omega arith) (ap (λ (n : ℕ). slice_get (first ∷ values) n) place) left

some_judgement : (found : Option Judgement) → (found ≡ None → ⊥) → IsSome found
some_judgement None none = absurd (none refl)
some_judgement (Some judgement) none = refl

names_judged : (told : ToldValue) (dockets : List (List DocketEntry)) (number : ℕ) (values : List LineValue) → NoneLeft told dockets number values → AllByRecursion IsAskInRange values
    → AllByRecursion (IsJudged dockets) (names_told values)
names_judged told dockets number [] none ranged = tt
names_judged told dockets number (OfRecord one ∷ values) none ranged = names_judged told dockets (number + 1) values (none_behind_first told dockets number (OfRecord one) values none) ranged.1
names_judged told dockets number (OfPublication edition ∷ values) none ranged = names_judged told dockets (number + 1) values (none_behind_first told dockets number (OfPublication edition) values none) ranged.1
names_judged told dockets number (OfAsk one ∷ values) none ranged = (
  (ranged.0.lane_first, ranged.0.first, some_judgement (judgement_at dockets one.lane one.at) (first_kept told dockets number (OfAsk one) values none)),
  names_judged told dockets (number + 1) values (none_behind_first told dockets number (OfAsk one) values none) ranged.1,
)
names_judged told dockets number (OfLane one ∷ values) none ranged = names_judged told dockets (number + 1) values (none_behind_first told dockets number (OfLane one) values none) ranged.1
names_judged told dockets number (OfOther ∷ values) none ranged = names_judged told dockets (number + 1) values (none_behind_first told dockets number OfOther values none) ranged.1

entries_judged : (dockets : List (List DocketEntry)) (entries : List Entry) → AllByRecursion (IsJudged dockets) (names_in entries) → AllByRecursion (IsOfJudgedRecord dockets) entries
entries_judged dockets [] all = tt
entries_judged dockets (Publish number ∷ entries) all = (tt, entries_judged dockets entries all)
entries_judged dockets (Ask lane op reply at ∷ entries) all = (all.0, entries_judged dockets entries all.1)

-- each ask of the journal that a report tells is of a judged record
pub asks_judged : (told : ToldValue) (dockets : List (List DocketEntry)) (editions : List Published) (report : List ℕ) (journal : Journal)
    → replay editions 1 (lines_told report) no_journal ≡ Lawful journal
    → ((other : ℕ) (value : LineValue) → 1 ≤ other → slice_get (lines_told report) (other - 1) ≡ Some value → IsLeftOver told dockets other value → ⊥)
    → AllByRecursion (IsOfJudgedRecord dockets) journal.entries
asks_judged told dockets editions report journal replayed none =
    let names : names_in journal.entries ≡ names_told (lines_told report) = names_replayed editions 1 (lines_told report) no_journal journal replayed in
    entries_judged dockets journal.entries
    (subst (λ (all : List AskName). AllByRecursion (IsJudged dockets) all) (sym names) (names_judged told dockets 1 (lines_told report) none (all_in_range (lines_with_ends report))))
