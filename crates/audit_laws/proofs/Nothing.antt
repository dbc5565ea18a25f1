-- No line of the report of a legal record is left over, and none lacks.
use Rattle.std.proofs.Common.{◌≡◌, ℕ, zero, suc, ◌+◌, ◌-◌, ◌≤◌, ◌<◌, ◌==◌, Option, Some, None, List, [], ◌∷◌, ◌++◌, length, map, refl, sym, ap, subst, ◌∙◌, inl, inr, arith}
use Rattle.std.specs.List.{AllByRecursion}
use Rattle.std.specs.Option.{option_map}
use Rattle.std.specs.Prelude.{⊤, IsSome, IsSomeAnd, option_and_then, slice_get}
use Rattle.std.proofs.lemmas.Bool.{cases_Bool}
use Rattle.std.proofs.lemmas.List.{length-map}
use Rattle.std.proofs.lemmas.Option.{slice_get-map}
use Rattle.counter_book.specs.declared.tally.Count.{Count}
use Rattle.eval_engine.specs.Dockets.{DocketValue, judgement_in}
use Rattle.eval_engine.specs.declared.docket_entry.DocketEntry.{DocketEntry}
use Rattle.eval_engine.specs.declared.judgement.Judgement.{Judgement}
use Rattle.report_texts.specs.declared.capture_end.CaptureEnd.{CaptureEnd}
use Rattle.fw_world.specs.Asks.{LaneAsk, AreAsksOf, IsAskOfEntry, IsJudgedUnder, asks_in, lane_asks}
use Rattle.fw_world.specs.Inputs.{Input}
use Rattle.fw_world.specs.Lanes.{EachLane, LaneCounts, LaneStands}
use Rattle.fw_world.specs.RecordValue.{RecordValue}
use Rattle.fw_world.specs.Sections.{AreSections}
use Rattle.report_reading.specs.Readings.{LineValue, OfRecord, OfPublication, OfAsk, OfLane, OfOther}
use Rattle.state_journal.specs.Entries.{AreOfLanes}
use Rattle.state_journal.specs.Items.{asks_of}
use Rattle.state_journal.specs.Journal.{Journal}
use Rattle.state_journal.specs.declared.entry.Entry.{Entry}
use Rattle.state_journal.specs.declared.entry.Entry.TheVariants.{Publish, Ask}
use Rattle.run_audit.proofs.JournalLines.{lane_values}
use Rattle.run_audit.proofs.LaneAsks.{some_within}
use Rattle.run_audit.proofs.RecordTexts.{record_values}
use Rattle.run_audit.specs.Audit.{told_value}
use Rattle.run_audit.specs.JudgingValues.{entries_of_each}
use Rattle.run_audit.specs.Judging.{ToldValue}
use Rattle.run_audit.specs.OtherLines.{HasSections, IsLeftOver, IsWrongBehind, LacksLane, LeftOver, Lacks, entry_at, judgement_at, lane_naming}
use Rattle.run_audit.specs.PrintedJournals.{entry_value}
use Rattle.run_audit.specs.ToldReport.{lines_told}
use Rattle.audit_laws.proofs.CaptureLines.{captures_values, end_lines, end_value}
use Rattle.audit_laws.proofs.Lanes.{same_lanes}
use Rattle.audit_laws.proofs.Lists.{in_place, both}
use Rattle.audit_laws.proofs.Naming.{first_lane, lane_found}
use Rattle.audit_laws.proofs.Opening.{IsRead, report_read}
use Rattle.audit_laws.proofs.OwnLines.{lane_in_report, lane_line_of}
use Rattle.audit_laws.proofs.ReportLines.{journal_values, report_values}
use Rattle.audit_laws.proofs.ToldNothing.{others}
use Rattle.audit_laws.specs.Completeness.{ReportsLeaveNothing}
use Rattle.audit_laws.specs.Printable.{last_names, report_of}
use Rattle.report_reading.proofs.Words.{same_number}

-- ---- what a line tells is there

-- the record, the judged record or the sections that a line tells of are there, among so many editions
abbrev IsThere : ℕ → List (List DocketEntry) → LineValue → Type 0
IsThere editions dockets (OfRecord one) = IsSome (entry_at dockets one.capture one.at)
IsThere editions dockets (OfPublication number) = ⊤
IsThere editions dockets (OfAsk one) = IsSome (judgement_at dockets one.lane one.at)
IsThere editions dockets (OfLane one) =
    IsSomeAnd (slice_get dockets (one.lane - 1)) (λ entries. AreSections editions (record { entries = entries; refused = one.refused }) one.tracker)
IsThere editions dockets OfOther = ⊤

-- such a line isn't left over
not_left : (told : ToldValue) (dockets : List (List DocketEntry)) (number : ℕ) (value : LineValue) → IsThere (length told.editions) dockets value → IsLeftOver told dockets number value → ⊥
not_left told dockets number (OfRecord one) there left = some_none (entry_at dockets one.capture one.at) there left
  where
    some_none : {X : Type 0} (o : Option X) → IsSome o → o ≡ None → ⊥
    some_none None some is = absurd (cc)
    some_none (Some x) some is = absurd (cc)
not_left told dockets number (OfPublication edition) there left = left
not_left told dockets number (OfAsk one) there left = some_none (judgement_at dockets one.lane one.at) there left
  where
    some_none : {X : Type 0} (o : Option X) → IsSome o → o ≡ None → ⊥
    some_none None some is = absurd (cc)
    some_none (Some x) some is = absurd (cc)
not_left told dockets number (OfLane one) there left = by_entries (slice_get dockets (one.lane - 1)) there left.1
  where
    by_entries : (o : Option (List DocketEntry)) → IsSomeAnd o (λ entries. AreSections (length told.editions) (record { entries = entries; refused = one.refused }) one.tracker)
        → IsSomeAnd o (λ entries. HasSections told entries (record { line = number; told = one }) → ⊥) → ⊥
    by_entries None are wrong = wrong
    by_entries (Some entries) are wrong = wrong are
not_left told dockets number OfOther there left = left

others_there : (editions : ℕ) (dockets : List (List DocketEntry)) (n : ℕ) → AllByRecursion (IsThere editions dockets) (others n)
others_there editions dockets zero = tt
others_there editions dockets (suc n) = (tt, others_there editions dockets n)

-- ---- records

some_entry : (o : Option DocketEntry) (entry : DocketEntry) → o ≡ Some entry → IsSome o
some_entry o entry is = rw is refl

records_there : (editions : ℕ) (dockets : List (List DocketEntry)) (capture start : ℕ) (all entries : List DocketEntry) → slice_get dockets (capture - 1) ≡ Some all → 1 ≤ start
    → ((k : ℕ) (entry : DocketEntry) → slice_get entries k ≡ Some entry → slice_get all (start - 1 + k) ≡ Some entry)
    → AllByRecursion (IsThere editions dockets) (record_values capture start entries)
records_there editions dockets capture start all [] own first within = tt
records_there editions dockets capture start all (entry ∷ entries) own first within =
    let here : start - 1 + 0 ≡ start - 1 = omega arith in
    let found : entry_at dockets capture start ≡ Some entry =
    ap (option_and_then (λ (es : List DocketEntry). slice_get es (start - 1))) own ∙ ap (slice_get all) (sym here) ∙ within 0 entry refl in (
      some_entry (entry_at dockets capture start) entry found,
      records_there editions dockets capture (start + 1) all entries own (omega arith)
          (λ k other is. ap (slice_get all) (next k) ∙ within (suc k) other is),
    )
  where
    next : (k : ℕ) → start + 1 - 1 + k ≡ start - 1 + suc k
    next k = omega (arith, first)

captures_there : (editions : ℕ) (all : List (List DocketEntry)) (capture : ℕ) (dockets : List DocketValue) (ends : List CaptureEnd) → 1 ≤ capture
    → ((l : ℕ) (docket : DocketValue) → slice_get dockets l ≡ Some docket → slice_get all (capture - 1 + l) ≡ Some docket.entries)
    → AllByRecursion (IsThere editions all) (captures_values capture dockets ends)
unfolding captures_values
captures_there editions all capture [] ends first within = tt
captures_there editions all capture (docket ∷ dockets) [] first within = tt
captures_there editions all capture (docket ∷ dockets) (end ∷ ends) first within =
    let here : capture - 1 ≡ capture - 1 + 0 = omega arith in
    let own : slice_get all (capture - 1) ≡ Some docket.entries = ap (slice_get all) here ∙ within 0 docket refl in
    both (IsThere editions all) (record_values capture 1 docket.entries ++ end_value capture end) (captures_values (capture + 1) dockets ends)
    (both (IsThere editions all) (record_values capture 1 docket.entries) (end_value capture end)
    (records_there editions all capture 1 docket.entries docket.entries own (omega arith) (λ k entry is. ap (slice_get docket.entries) (start k) ∙ is))
    (others_there editions all (end_lines capture end)))
    (captures_there editions all (capture + 1) dockets ends (omega (arith, first)) (λ l other is. ap (slice_get all) (next l) ∙ within (suc l) other is))
  where
    start : (k : ℕ) → 1 - 1 + k ≡ k
    start k = omega arith

    next : (l : ℕ) → capture + 1 - 1 + l ≡ capture - 1 + suc l
    next l = omega (arith, first)

-- ---- asks

some_and : {X Y : Type 0} (P : X → Type 0) (f : X → Option Y) (o : Option X) → IsSomeAnd o P → ((x : X) → P x → IsSome (f x)) → IsSome (option_and_then f o)
some_and P f None is each = absurd is
some_and P f (Some x) is each = each x is

judged_some : (number : ℕ) (entry : DocketEntry) → IsJudgedUnder number entry → IsSome (judgement_in entry)
judged_some number entry is = by_judgement (judgement_in entry) is
  where
    by_judgement : (o : Option Judgement) → IsSomeAnd o (λ (j : Judgement). j.edition ≡ number) → IsSome o
    by_judgement None under = absurd under
    by_judgement (Some judgement) under = refl

-- an ask of a lane is of a judged record
ask_there : (dockets : List (List DocketEntry)) (lane : ℕ) (own : List DocketEntry) (ask : LaneAsk) → slice_get dockets (lane - 1) ≡ Some own → IsAskOfEntry own ask
    → IsSome (judgement_at dockets lane ask.at)
ask_there dockets lane own ask found of_entry =
    subst (λ (o : Option (List DocketEntry)). IsSome (option_and_then judgement_in (option_and_then (λ (es : List DocketEntry). slice_get es (ask.at - 1)) o))) (sym found)
    (some_and (IsJudgedUnder ask.after) judgement_in (slice_get own (ask.at - 1)) of_entry (λ entry is. judged_some ask.after entry is))

-- each ask of the journal is of an ask of its lane
module _ (editions : ℕ) (names : List (List ℕ)) (dockets : List (List DocketEntry)) (all : List Entry)
    (lanes : (lane : ℕ) → 1 ≤ lane → lane ≤ length dockets
    → (own : List DocketEntry) × (slice_get dockets (lane - 1) ≡ Some own) × AllByRecursion (IsAskOfEntry own) (lane_asks lane all))
  where
    -- the asks of a lane from this publication on are of judged records
    Judges : ℕ → List Entry → Type 0
    Judges after entries = (lane : ℕ) → 1 ≤ lane → lane ≤ length dockets
        → (own : List DocketEntry) × (slice_get dockets (lane - 1) ≡ Some own) × AllByRecursion (IsAskOfEntry own) (asks_in (asks_of lane after entries))

    entries_there : (after : ℕ) (entries : List Entry) → AreOfLanes (length dockets) entries → Judges after entries → AllByRecursion (IsThere editions dockets) (map (entry_value names) entries)
    unfolding Judges
    entries_there after [] of_lanes judges = tt
    entries_there after (Publish number ∷ entries) of_lanes judges = (tt, entries_there number entries of_lanes.1 judges)
    entries_there after (Ask lane op reply at ∷ entries) of_lanes judges =
        let (own, found, asked) = judges lane of_lanes.0.0 of_lanes.0.1 in
        let here : AllByRecursion (IsAskOfEntry own) (record { after = after; at = at; op = op; reply = reply } ∷ asks_in (asks_of lane after entries)) = rw (same_number lane) at asked in (
          ask_there dockets lane own (record { after = after; at = at; op = op; reply = reply }) found here.0,
          entries_there after entries of_lanes.1 (λ other first last. behind other (judges other first last)),
        )
      where
        behind : (other : ℕ) → (own : List DocketEntry) × (slice_get dockets (other - 1) ≡ Some own) × AllByRecursion (IsAskOfEntry own) (asks_in (asks_of other after (Ask lane op reply at ∷ entries)))
            → (own : List DocketEntry) × (slice_get dockets (other - 1) ≡ Some own) × AllByRecursion (IsAskOfEntry own) (asks_in (asks_of other after entries))
        behind other (own, found, asked) = elim (cases_Bool (lane == other)) [
          | inl same ↦
              let both : AllByRecursion (IsAskOfEntry own) (record { after = after; at = at; op = op; reply = reply } ∷ asks_in (asks_of other after entries)) = rw same at asked in
              (own, found, both.1)
          | inr apart ↦ let rest : AllByRecursion (IsAskOfEntry own) (asks_in (asks_of other after entries)) = rw apart at asked in (own, found, rest)
        ]

    journal_there : AreOfLanes (length dockets) all → AllByRecursion (IsThere editions dockets) (map (entry_value names) all)
    unfolding Judges
    journal_there of_lanes = entries_there 0 all of_lanes lanes

-- ---- lanes

-- What is known of a lane in its place: its docket, and that its asks are of judged records.
record StandsAt (r : RecordValue) (dockets : List DocketValue) (l lane : ℕ) : Type 0 where
  docket : DocketValue
  found : slice_get dockets l ≡ Some docket
  asked : AreAsksOf docket.entries (lane_asks lane r.journal.entries)

stands_at : (r : RecordValue) (first l : ℕ) (inputs : List (List Input)) (dockets : List DocketValue) (tallies : List (List Count)) (trackers : List ℕ)
    → EachLane (LaneStands r) first inputs dockets tallies trackers → l < length dockets → StandsAt r dockets l (first + l)
stands_at r first l inputs [] tallies trackers each less = absurd (omega (arith, less))
stands_at r first l [] (docket ∷ dockets) tallies trackers each less = absurd each
stands_at r first l (own ∷ inputs) (docket ∷ dockets) [] trackers each less = absurd each
stands_at r first l (own ∷ inputs) (docket ∷ dockets) (tally ∷ tallies) [] each less = absurd each
stands_at r first zero (own ∷ inputs) (docket ∷ dockets) (tally ∷ tallies) (tracker ∷ trackers) each less =
    let here : first ≡ first + 0 = omega arith in
    record {
      docket = docket;
      found = refl;
      asked = subst (λ (n : ℕ). AreAsksOf docket.entries (lane_asks n r.journal.entries)) here each.0.asked;
    }
stands_at r first (suc l) (own ∷ inputs) (docket ∷ dockets) (tally ∷ tallies) (tracker ∷ trackers) each less =
    let more = stands_at r (first + 1) l inputs dockets tallies trackers each.1 (omega (arith, less)) in
    let place : first + 1 + l ≡ first + suc l = omega arith in
    record {
      docket = more.docket;
      found = more.found;
      asked = subst (λ (n : ℕ). AreAsksOf more.docket.entries (lane_asks n r.journal.entries)) place more.asked;
    }

-- the entries of a docket in its place
pub entries_at : (dockets : List DocketValue) (l : ℕ) (docket : DocketValue) → slice_get dockets l ≡ Some docket → slice_get (entries_of_each dockets) l ≡ Some docket.entries
entries_at dockets l docket is = slice_get-map (λ (d : DocketValue). d.entries) dockets l ∙ ap (option_map (λ (d : DocketValue). d.entries)) is

lanes_there : (r : RecordValue) (all : List (List DocketEntry)) (lane : ℕ) (inputs : List (List Input)) (dockets : List DocketValue) (tallies : List (List Count)) (trackers : List ℕ)
    → EachLane (LaneCounts r) lane inputs dockets tallies trackers → 1 ≤ lane → ((l : ℕ) (docket : DocketValue) → slice_get dockets l ≡ Some docket → slice_get all (lane - 1 + l) ≡ Some docket.entries)
    → AllByRecursion (IsThere (length r.editions) all) (lane_values lane dockets trackers)
lanes_there r all lane inputs [] tallies trackers each first within = tt
lanes_there r all lane inputs (docket ∷ dockets) tallies [] each first within = tt
lanes_there r all lane [] (docket ∷ dockets) tallies (tracker ∷ trackers) each first within = absurd each
lanes_there r all lane (own ∷ inputs) (docket ∷ dockets) [] (tracker ∷ trackers) each first within = absurd each
lanes_there r all lane (own ∷ inputs) (docket ∷ dockets) (tally ∷ tallies) (tracker ∷ trackers) each first within =
    let here : lane - 1 ≡ lane - 1 + 0 = omega arith in
    let found : slice_get all (lane - 1) ≡ Some docket.entries = ap (slice_get all) here ∙ within 0 docket refl in (
      subst (λ (o : Option (List DocketEntry)). IsSomeAnd o (λ entries. AreSections (length r.editions) (record { entries = entries; refused = docket.refused }) tracker)) (sym found) each.0,
      lanes_there r all (lane + 1) inputs dockets tallies trackers each.1 (omega (arith, first)) (λ l other is. ap (slice_get all) (next l) ∙ within (suc l) other is),
    )
  where
    next : (l : ℕ) → lane + 1 - 1 + l ≡ lane - 1 + suc l
    next l = omega (arith, first)

-- ---- the report

not_none : {X : Type 0} (o : Option X) (P : X → Type 0) → o ≡ None → IsSomeAnd o P → ⊥
not_none None P none is = is
not_none (Some x) P none is = absurd (cc)

module _ (r : RecordValue) (ends : List CaptureEnd) (inputs : List (List Input)) (lanes : EachLane (LaneStands r) 1 inputs r.dockets r.tallies r.trackers)
    (sections : EachLane (LaneCounts r) 1 inputs r.dockets r.tallies r.trackers) (of_lanes : AreOfLanes (length inputs) r.journal.entries)
  where
    -- what was entered for each lane
    all : List (List DocketEntry)
    all = entries_of_each r.dockets

    many : length all ≡ length r.dockets
    unfolding all
    many = length-map r.dockets (λ (d : DocketValue). d.entries)

    within : (l : ℕ) (docket : DocketValue) → slice_get r.dockets l ≡ Some docket → slice_get all (1 - 1 + l) ≡ Some docket.entries
    unfolding all
    within l docket is =
        let place : 1 - 1 + l ≡ l = omega arith in
        ap (slice_get (entries_of_each r.dockets)) place ∙ entries_at r.dockets l docket is

    lane_judges : (lane : ℕ) → 1 ≤ lane → lane ≤ length all
        → (own : List DocketEntry) × (slice_get all (lane - 1) ≡ Some own) × AllByRecursion (IsAskOfEntry own) (lane_asks lane r.journal.entries)
    unfolding all
    lane_judges lane first last =
        let count = many in
        let less : lane - 1 < length r.dockets = omega (arith, first, last, count) in
        let at = stands_at r 1 (lane - 1) inputs r.dockets r.tallies r.trackers lanes less in
        let place : 1 + (lane - 1) ≡ lane = omega (arith, first) in
        let asked : AreAsksOf at.docket.entries (lane_asks lane r.journal.entries) = subst (λ (n : ℕ). AreAsksOf at.docket.entries (lane_asks n r.journal.entries)) place at.asked in
        (at.docket.entries, entries_at r.dockets (lane - 1) at.docket at.found, asked.entered)

    values_there : (between : ℕ) → AllByRecursion (IsThere (length r.editions) all) (report_values between r ends)
    values_there between =
        let entries : List LineValue = map (entry_value (last_names r)) r.journal.entries in
        let (count, trackers) = same_lanes (LaneStands r) 1 inputs r.dockets r.tallies r.trackers lanes in
        let asked : AreOfLanes (length all) r.journal.entries = subst (λ (n : ℕ). AreOfLanes n r.journal.entries) (count ∙ sym many) of_lanes in
        both (IsThere (length r.editions) all) (captures_values 1 r.dockets ends) (others between ++ journal_values (last_names r) r)
        (captures_there (length r.editions) all 1 r.dockets ends (omega arith) within)
        (both (IsThere (length r.editions) all) (others between) (journal_values (last_names r) r) (others_there (length r.editions) all between)
        (both (IsThere (length r.editions) all) entries (lane_values 1 r.dockets r.trackers)
        (journal_there (length r.editions) (last_names r) all r.journal.entries lane_judges asked)
        (lanes_there r all 1 inputs r.dockets r.tallies r.trackers sections (omega arith) within)))

    module _ (report : List ℕ) (journal : Journal) (read : IsRead r ends report) where
      told : ToldValue
      told = told_value r.editions journal report

      no_lane_lacks : LacksLane told all → ⊥
      unfolding told
      no_lane_lacks lacks =
          let first = lacks.first in
          let last = lacks.last in
          let count = many in
          let l : ℕ = lacks.lane - 1 in
          let (_, trackers) = same_lanes (LaneStands r) 1 inputs r.dockets r.tallies r.trackers lanes in
          let less : l < length r.dockets = omega (arith, first, last, count) in
          let (docket, found) = some_within r.dockets l less in
          let (tracker, tracked) = some_within r.trackers l (omega (arith, less, trackers)) in
          let own : first_lane (1 + l) (lines_told report) ≡ Some (lane_line_of (1 + l) docket tracker) =
          ap (λ (values : List LineValue). first_lane (1 + l) values) read.told ∙ lane_in_report read.between r ends l docket tracker found tracked in
          let named = lane_found (1 + l) 1 (lines_told report) (lane_line_of (1 + l) docket tracker) own in
          let place : 1 + l ≡ lacks.lane = omega (arith, first) in
          let none : lane_naming (told_value r.editions journal report) (1 + l) ≡ None = ap (λ (n : ℕ). lane_naming (told_value r.editions journal report) n) place ∙ lacks.none in
          not_none (lane_naming (told_value r.editions journal report) (1 + l)) _ none named

      nothing_wrong : (number : ℕ) → IsWrongBehind (told_value r.editions journal report) (lines_told report) (entries_of_each r.dockets) number → ⊥
      unfolding told all
      nothing_wrong number (LeftOver value is first left) =
          let there : AllByRecursion (IsThere (length r.editions) (entries_of_each r.dockets)) (lines_told report) =
          subst (λ (values : List LineValue). AllByRecursion (IsThere (length r.editions) (entries_of_each r.dockets)) values) (sym read.told) (values_there read.between) in
          not_left (told_value r.editions journal report) (entries_of_each r.dockets) number value (in_place (IsThere (length r.editions) (entries_of_each r.dockets)) (lines_told report) (number - 1) value there is) left
      nothing_wrong number (Lacks is lacks) = no_lane_lacks lacks

-- nothing is left over, and nothing lacks
pub reports_leave_nothing : ReportsLeaveNothing
reports_leave_nothing = λ config steps inputs r ends answers is journal again.
    nothing_wrong r ends inputs is.legal.lanes is.legal.sections is.legal.asked (report_of r ends answers) journal (report_read config steps inputs r ends answers is)
