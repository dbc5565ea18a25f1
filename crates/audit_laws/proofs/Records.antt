-- Each record of a legal record is as its report tells it.
use Rattle.std.proofs.Common.{◌≡◌, ℕ, suc, ◌+◌, ◌-◌, ◌≤◌, ◌<◌, ◌==◌, Option, Some, None, List, [], ◌∷◌, length, map, get_or, refl, sym, ap, subst, ◌∙◌, inl, inr, arith}
use Rattle.std.specs.List.{AllByRecursion}
use Rattle.std.specs.Option.{option_map}
use Rattle.std.specs.Prelude.{IfSome, IsSomeAnd, slice_get}
use Rattle.std.proofs.lemmas.Bool.{cases_Bool, eqb-true}
use Rattle.std.proofs.lemmas.List.{length-map}
use Rattle.std.proofs.lemmas.Option.{slice_get-map, slice_get_within, get_or_from_slice_get}
use Rattle.counter_book.specs.declared.tally.Count.{Count}
use Rattle.eval_engine.specs.Dockets.{DocketValue, judgement_in}
use Rattle.eval_engine.specs.declared.docket_entry.DocketEntry.{DocketEntry}
use Rattle.eval_engine.specs.declared.judgement.Judgement.{Judgement}
use Rattle.report_texts.specs.declared.capture_end.CaptureEnd.{CaptureEnd}
use Rattle.fw_world.specs.Asks.{LaneAsk, AreAsksOf, IsAskOfEntry, IsJudgedUnder, asks_of_record, lane_asks}
use Rattle.fw_world.specs.Entries.{EachRecord, IsEntryFor, IsEvaluated}
use Rattle.fw_world.specs.Inputs.{Input}
use Rattle.fw_world.specs.Lanes.{EachLane, LaneStands}
use Rattle.fw_world.specs.RecordValue.{RecordValue}
use Rattle.report_reading.specs.Readings.{LineValue}
use Rattle.report_reading.specs.RecordLines.{printed}
use Rattle.report_reading.specs.declared.record_lines.RecordLine.{RecordLine}
use Rattle.state_journal.specs.Journal.{Journal}
use Rattle.state_journal.specs.declared.entry.Entry.{Entry}
use Rattle.run_audit.specs.Audit.{told_value}
use Rattle.run_audit.specs.JudgingValues.{entries_of_each}
use Rattle.run_audit.specs.Judging.{ToldValue, AreTimely, AreToldSo, IsToldSo, asks_told, line_naming}
use Rattle.run_audit.specs.ToldReport.{lines_told}
use Rattle.audit_laws.proofs.Naming.{first_record, record_found}
use Rattle.audit_laws.proofs.Opening.{IsRead, report_read}
use Rattle.audit_laws.proofs.OwnLines.{in_report, own_line}
use Rattle.audit_laws.specs.Completeness.{ReportsTellRecords}
use Rattle.audit_laws.specs.Printable.{report_of}

-- ---- asks in their time

module _ (entries : List DocketEntry) (asks : List LaneAsk) (are : AreAsksOf entries asks) (at : ℕ) (entry : DocketEntry) (judgement : Judgement)
    (found : slice_get entries (at - 1) ≡ Some entry) (judged : judgement_in entry ≡ Some judgement)
  where
    under : (ask : LaneAsk) → ask.at ≡ at → IsAskOfEntry entries ask → ask.after ≡ judgement.edition
    under ask same of_entry =
        let there : slice_get entries (ask.at - 1) ≡ Some entry = ap (λ (n : ℕ). slice_get entries (n - 1)) same ∙ found in
        let here : IsJudgedUnder ask.after entry = subst (λ (o : Option DocketEntry). IsSomeAnd o (IsJudgedUnder ask.after)) there of_entry in
        sym (subst (λ (o : Option Judgement). IsSomeAnd o (λ (j : Judgement). j.edition ≡ ask.after)) judged here)

    all_under : (ones : List LaneAsk) → AllByRecursion (IsAskOfEntry entries) ones → AllByRecursion (λ ask. ask.after ≡ judgement.edition) (asks_of_record at ones)
    all_under [] all = tt
    all_under (ask ∷ ones) all = elim (cases_Bool (ask.at == at)) [
      | inl same ↦ rw same (under ask (eqb-true ask.at at same) all.0, all_under ones all.1)
      | inr other ↦ rw other (all_under ones all.1)
    ]

    number_in : (k d : ℕ) (ask : LaneAsk) → slice_get asks k ≡ Some ask → get_or (map (λ (one : LaneAsk). one.at) asks) k d ≡ ask.at
    number_in k d ask is =
        get_or_from_slice_get (map (λ (one : LaneAsk). one.at) asks) k ask.at d
        (slice_get-map (λ (one : LaneAsk). one.at) asks k ∙ ap (option_map (λ (one : LaneAsk). one.at)) is)

    in_order : (early late : ℕ) (before own : LaneAsk) → early < late → slice_get asks early ≡ Some before → slice_get asks late ≡ Some own → own.at ≡ at → before.at ≤ at
    in_order early late before own less is_before is_own same =
        let many : length (map (λ (one : LaneAsk). one.at) asks) ≡ length asks = length-map asks (λ (one : LaneAsk). one.at) in
        let within : late < length asks = slice_get_within asks late own is_own in
        let lower = are.ordered early late 0 (omega (arith, less)) (omega (arith, within, many)) in
        omega (arith, lower, number_in early 0 before is_before, number_in late 0 own is_own, same)

    -- the asks of a judged record were made in their time
    pub timely : AreTimely asks at judgement.edition
    timely = record { under = all_under asks are.entered; ordered = in_order }

-- ---- records

if_some : {X : Type 0} (P : X → Type 0) (o : Option X) → ((x : X) → o ≡ Some x → P x) → IfSome o P
if_some P None each = tt
if_some P (Some x) each = each x refl

line_entry : {X : Type 0} (line_of : X → RecordLine) (o : Option X) (line : RecordLine) → IsSomeAnd o (λ one. line_of one ≡ line) → IsSomeAnd o (λ one. (line_of one).entry ≡ line.entry)
line_entry line_of None line is = absurd is
line_entry line_of (Some one) line is = ap (λ (told : RecordLine). told.entry) is

-- the line of a record tells this entry
abbrev IsNamed : ToldValue → ℕ → ℕ → DocketEntry → Type 0
IsNamed told lane at entry = IsSomeAnd (line_naming told lane at) (λ one. one.told.entry ≡ printed entry)

each_told : (told : ToldValue) (lane start : ℕ) (inputs : List Input) (entries : List DocketEntry) → EachRecord IsEntryFor start inputs entries
    → EachRecord (IsEvaluated told.editions (asks_told told lane)) start inputs entries
    → ((k : ℕ) (entry : DocketEntry) → slice_get entries k ≡ Some entry → IsNamed told lane (start + k) entry)
    → ((k : ℕ) (entry : DocketEntry) (judgement : Judgement) → slice_get entries k ≡ Some entry → judgement_in entry ≡ Some judgement → AreTimely (asks_told told lane) (start + k) judgement.edition)
    → EachRecord (IsToldSo told lane) start inputs entries
each_told told lane start [] [] entered evaluated named time = tt
each_told told lane start [] (entry ∷ entries) entered evaluated named time = entered
each_told told lane start (input ∷ inputs) [] entered evaluated named time = entered
each_told told lane start (input ∷ inputs) (entry ∷ entries) entered evaluated named time =
    let here : start + 0 ≡ start = omega arith in
    let own : IsToldSo told lane start input entry = record {
      named = subst (λ (n : ℕ). IsNamed told lane n entry) here (named 0 entry refl);
      entered = entered.0;
      evaluated = evaluated.0;
      timely = if_some (λ (judgement : Judgement). AreTimely (asks_told told lane) start judgement.edition) (judgement_in entry)
          (λ judgement is. subst (λ (n : ℕ). AreTimely (asks_told told lane) n judgement.edition) here (time 0 entry judgement refl is));
    } in (
      own,
      each_told told lane (start + 1) inputs entries entered.1 evaluated.1
          (λ k other is. subst (λ (n : ℕ). IsNamed told lane n other) (next k) (named (suc k) other is))
          (λ k other judgement is judged. subst (λ (n : ℕ). AreTimely (asks_told told lane) n judgement.edition) (next k) (time (suc k) other judgement is judged)),
    )
  where
    next : (k : ℕ) → start + suc k ≡ start + 1 + k
    next k = omega arith

module _ (r : RecordValue) (told : ToldValue) (editions : told.editions ≡ r.editions) (entries : told.journal.entries ≡ r.journal.entries) where
  lane_told : (lane : ℕ) (inputs : List Input) (docket : DocketValue) (tally : List Count) (tracker : ℕ) → LaneStands r lane inputs docket tally tracker
      → ((k : ℕ) (entry : DocketEntry) → slice_get docket.entries k ≡ Some entry → IsNamed told lane (1 + k) entry) → EachRecord (IsToldSo told lane) 1 inputs docket.entries
  lane_told lane inputs docket tally tracker stands named =
      let evaluated : EachRecord (IsEvaluated told.editions (asks_told told lane)) 1 inputs docket.entries =
      subst (λ (es : List _). EachRecord (IsEvaluated es (asks_told told lane)) 1 inputs docket.entries) (sym editions)
      (subst (λ (es : List Entry). EachRecord (IsEvaluated r.editions (lane_asks lane es)) 1 inputs docket.entries) (sym entries) stands.evaluated) in
      let asked : AreAsksOf docket.entries (asks_told told lane) = subst (λ (es : List Entry). AreAsksOf docket.entries (lane_asks lane es)) (sym entries) stands.asked in
      each_told told lane 1 inputs docket.entries stands.entered evaluated named (λ k entry judgement is judged. in_time k entry judgement asked is judged)
    where
      in_time : (k : ℕ) (entry : DocketEntry) (judgement : Judgement) → AreAsksOf docket.entries (asks_told told lane) → slice_get docket.entries k ≡ Some entry
          → judgement_in entry ≡ Some judgement → AreTimely (asks_told told lane) (1 + k) judgement.edition
      in_time k entry judgement asked is judged =
          let place : 1 + k - 1 ≡ k = omega arith in
          timely docket.entries (asks_told told lane) asked (1 + k) entry judgement (ap (slice_get docket.entries) place ∙ is) judged

  lanes_told : (lane : ℕ) (inputs : List (List Input)) (dockets : List DocketValue) (tallies : List (List Count)) (trackers : List ℕ) → EachLane (LaneStands r) lane inputs dockets tallies trackers
      → ((l k : ℕ) (docket : DocketValue) (entry : DocketEntry) → slice_get dockets l ≡ Some docket → slice_get docket.entries k ≡ Some entry → IsNamed told (lane + l) (1 + k) entry)
      → AreToldSo told lane inputs (entries_of_each dockets)
  lanes_told lane [] [] tallies trackers each named = tt
  lanes_told lane [] (docket ∷ dockets) tallies trackers each named = absurd each
  lanes_told lane (own ∷ inputs) [] tallies trackers each named = absurd each
  lanes_told lane (own ∷ inputs) (docket ∷ dockets) [] trackers each named = absurd each
  lanes_told lane (own ∷ inputs) (docket ∷ dockets) (tally ∷ tallies) [] each named = absurd each
  lanes_told lane (own ∷ inputs) (docket ∷ dockets) (tally ∷ tallies) (tracker ∷ trackers) each named =
      let here : lane + 0 ≡ lane = omega arith in (
        lane_told lane own docket tally tracker each.0 (λ k entry is. subst (λ (n : ℕ). IsNamed told n (1 + k) entry) here (named 0 k docket entry refl is)),
        lanes_told (lane + 1) inputs dockets tallies trackers each.1
            (λ l k other entry is found. subst (λ (n : ℕ). IsNamed told n (1 + k) entry) (next l) (named (suc l) k other entry is found)),
      )
    where
      next : (l : ℕ) → lane + suc l ≡ lane + 1 + l
      next l = omega arith

-- ---- the report

own_named : (r : RecordValue) (ends : List CaptureEnd) (report : List ℕ) (journal : Journal) → IsRead r ends report → length ends ≡ length r.dockets
    → (l k : ℕ) (docket : DocketValue) (entry : DocketEntry) → slice_get r.dockets l ≡ Some docket → slice_get docket.entries k ≡ Some entry
    → IsNamed (told_value r.editions journal report) (1 + l) (1 + k) entry
own_named r ends report journal read many l k docket entry is found =
    let first : first_record (1 + l) (1 + k) (lines_told report) ≡ Some (own_line (1 + l) (1 + k) entry) =
    ap (λ (values : List LineValue). first_record (1 + l) (1 + k) values) read.told ∙ in_report read.between r ends l k docket entry many is found in
    line_entry (λ one. one.told) (line_naming (told_value r.editions journal report) (1 + l) (1 + k)) (own_line (1 + l) (1 + k) entry)
    (record_found (1 + l) (1 + k) 1 (lines_told report) (own_line (1 + l) (1 + k) entry) first)

-- each record is as the report tells it
pub reports_tell_records : ReportsTellRecords
reports_tell_records = λ config steps inputs r ends answers is journal again.
    let report : List ℕ = report_of r ends answers in
    lanes_told r (told_value r.editions journal report) refl again.entries 1 inputs r.dockets r.tallies r.trackers is.legal.lanes
    (own_named r ends report journal (report_read config steps inputs r ends answers is) is.printable.ended)
