-- What an evaluation comes to is in the ranges of a record's line, where the replies to its asks are.
use Rattle.std.proofs.Common.{◌≡◌, ℕ, ◌+◌, ◌-◌, ◌^◌, ◌≤◌, ◌<◌, ◌==◌, Option, Some, None, List, [], ◌∷◌, length, refl, sym, ap, subst, ◌∙◌, inl, inr, arith}
use Rattle.std.specs.List.{AllByRecursion, position_or_len}
use Rattle.std.specs.Prelude.{⊤, IfSome, IsSomeAnd}
use Rattle.std.proofs.lemmas.Bool.{cases_Bool}
use Rattle.std.proofs.lemmas.Option.{slice_get_within}
use Rattle.counter_book.specs.declared.tally.Count.{Count as Counted}
use Rattle.eval_engine.proofs.Hits.{judgement_names_edition}
use Rattle.eval_engine.specs.Dockets.{DocketValue, entry_by_cause, judged_entry, judgement_in, judgement_of}
use Rattle.eval_engine.specs.Encounter.{rule_ref}
use Rattle.eval_engine.specs.Evaluated.{Evaluated, Whole}
use Rattle.eval_engine.specs.Evaluation.{evaluate}
use Rattle.eval_engine.specs.Laws.{verdict_of}
use Rattle.eval_engine.specs.Question.{Question, question_under}
use Rattle.eval_engine.specs.declared.docket_entry.DocketEntry.{DocketEntry}
use Rattle.eval_engine.specs.declared.docket_entry.DocketEntry.TheVariants as entry
use Rattle.eval_engine.specs.declared.judgement.Cause.{Cause}
use Rattle.eval_engine.specs.declared.judgement.Cause.TheVariants as causes
use Rattle.eval_engine.specs.declared.judgement.Judgement.{Judgement}
use Rattle.eval_engine.specs.declared.judgement.Verdict.{Verdict}
use Rattle.eval_engine.specs.declared.judgement.Verdict.TheVariants as verdicts
use Rattle.evaluation_laws.proofs.Sound.{IsSuffix, from_suffix, rest_suffix, rules_at, runs_are_evaluations}
use Rattle.evaluation_laws.proofs.Total.{each_reaches}
use Rattle.evaluation_laws.specs.Runs.{Moment, Runs, BehindAll, IsDisabled, IsUnasked, IsUnanswered, IsFound, IsNotFound, IsMistaken, IsCheckState, IsUnheld, IsFlowless, IsStateless, IsWaiting, IsMade, IsThere, IsLimited, IsFull, IsMisread, IsDecided, IsCounted, IsChecked, IsSkipped, IsDeepest, IsEnded, IsReturned, IsOutside, IsWithin}
use Rattle.evaluation_laws.specs.Story.{Ending, Ends, OpensAt, Mistakes, Returns, Story, outcome_by}
use Rattle.fw_base.specs.declared.port.Port.{Port}
use Rattle.fw_rule.specs.WellFormed.{IsAction}
use Rattle.fw_rule.specs.declared.action.Action.{Action}
use Rattle.fw_rule.specs.declared.action.Action.TheVariants.{Allow, Deny, Reset, Unreach, Count, SkipTo, Call, Return, CheckState}
use Rattle.fw_rule.specs.declared.rule.Rule.{Rule}
use Rattle.fw_world.specs.Asks.{LaneAsk, asks_in, asks_of_record, lane_asks, replies_of}
use Rattle.fw_world.specs.Editions.{edition_numbered}
use Rattle.fw_world.specs.Entries.{EachRecord, IsEntryFor, IsEvaluated, IsEvaluatedTo, IsEvaluation}
use Rattle.fw_world.specs.Inputs.{Input, Other, Malformed, Packet}
use Rattle.fw_world.specs.Lanes.{EachLane, LaneStands}
use Rattle.fw_world.specs.RecordValue.{RecordValue}
use Rattle.generation_store.specs.Jumps.{first_from}
use Rattle.generation_store.specs.Published.{Published, is_identity}
use Rattle.ip6_headers.specs.declared.any_ip.AnyIp.{AnyIp}
use Rattle.report_reading.specs.AskLines.{IsReply}
use Rattle.report_reading.specs.RecordLines.{IsEntry, IsJudged, IsVerdict}
use Rattle.rule_chain.specs.Chain.{IsConfiguration, IsRule}
use Rattle.state_asks.specs.declared.reply.Reply.{Reply}
use Rattle.state_journal.specs.Items.{asks_of}
use Rattle.state_journal.specs.declared.entry.Entry.{Entry}
use Rattle.state_journal.specs.declared.entry.Entry.TheVariants.{Publish, Ask}
use Rattle.run_audit.specs.Replaying.{AreNumbered}
use Rattle.audit_laws.proofs.HeldStates.{IsAnswered}
use Rattle.audit_laws.proofs.Lists.{in_place, all_behind}
use Rattle.audit_laws.specs.Printable.{IsPrintableInput}

-- ---- a judgement

-- a count of states has 32 bits
abbrev IsCauseInRange : Cause → Type 0
IsCauseInRange causes.Rule = ⊤
IsCauseInRange (causes.Limit states) = states < 2 ^ 32
IsCauseInRange (causes.Full states) = states < 2 ^ 32

-- a judgement's verdict, the number of its rule, and its cause
record IsInRange (judgement : Judgement) : Type 0 where
  verdict : IsVerdict judgement.verdict
  number : judgement.rule.number ≤ 65535
  cause : IsCauseInRange judgement.cause

verdict_in_range : (action : Action) (verdict : Verdict) → IsAction action → verdict_of action ≡ Some verdict → IsVerdict verdict
verdict_in_range Allow verdict is decided = let same : verdicts.Allow ≡ verdict = cc in subst IsVerdict same tt
verdict_in_range Deny verdict is decided = let same : verdicts.Deny ≡ verdict = cc in subst IsVerdict same tt
verdict_in_range Reset verdict is decided = let same : verdicts.Reset ≡ verdict = cc in subst IsVerdict same tt
verdict_in_range (Unreach code) verdict is decided = let same : verdicts.Unreach code ≡ verdict = cc in subst IsVerdict same is
verdict_in_range Count verdict is decided = absurd (cc)
verdict_in_range (SkipTo number) verdict is decided = absurd (cc)
verdict_in_range (Call number) verdict is decided = absurd (cc)
verdict_in_range Return verdict is decided = absurd (cc)
verdict_in_range (CheckState name) verdict is decided = absurd (cc)

module _ (q : Question) (lawful : IsConfiguration q.edition.config) where
  -- how a run ends is in its ranges, and so are the replies that are left where it returns
  EndsInRange : Ending → Type 0
  EndsInRange (Ends judgement left) = IsInRange judgement
  EndsInRange (OpensAt op) = ⊤
  EndsInRange Mistakes = ⊤
  EndsInRange (Returns seen left) = AllByRecursion IsReply left

  rule_known : (rule : Rule) (rest : List Rule) → IsSuffix q.edition.config.rules (rule ∷ rest) → IsRule q.edition.config.greatest_id q.edition.config.greatest_counter rule
  rule_known rule rest suffix =
      (subst (λ (rules : List Rule). AllByRecursion (IsRule q.edition.config.greatest_id q.edition.config.greatest_counter) rules) suffix.is
      (all_behind (IsRule q.edition.config.greatest_id q.edition.config.greatest_counter) suffix.place q.edition.config.rules lawful.rules)).0

  denied : (rule : Rule) (rest : List Rule) (cause : Cause) (edition : ℕ) → IsSuffix q.edition.config.rules (rule ∷ rest) → IsCauseInRange cause
      → IsInRange (record { edition = edition; verdict = verdicts.Deny; rule = rule_ref rule; cause = cause })
  denied rule rest cause edition suffix small = record { verdict = tt; number = (rule_known rule rest suffix).number.most_ge; cause = small }

  ends_in_range : {depth : ℕ} {seen : _} {moment : Moment} {replies : List Reply} {story : Story} → Runs q depth seen moment replies story
      → IsSuffix q.edition.config.rules (rules_at moment) → AllByRecursion IsReply replies → EndsInRange story.ending
  unfolding EndsInRange
  ends_in_range (BehindAll depth seen replies) = λ suffix all. record { verdict = tt; number = omega arith; cause = tt }
  ends_in_range (IsDisabled depth seen rule rest replies story disabled on) = λ suffix all. ends_in_range on (rest_suffix q.edition.config.rules rule rest suffix) all
  ends_in_range (IsUnasked depth seen rule rest replies story enabled undue on) = λ suffix all. ends_in_range on suffix all
  ends_in_range (IsUnanswered depth seen rule rest flow enabled due) = λ suffix all. tt
  ends_in_range (IsFound depth seen rule rest flow maker way found after replies story enabled due fits there on) = λ suffix all.
      ends_in_range on (record { place = position_or_len (is_identity maker.id) q.edition.config.rules; is = there }) all.1
  ends_in_range (IsNotFound depth seen rule rest flow replies story enabled due on) = λ suffix all. ends_in_range on suffix all.1
  ends_in_range (IsMistaken depth seen rule rest flow reply replies enabled due unfit) = λ suffix all. tt
  ends_in_range (IsCheckState depth seen rule rest replies story check on) = λ suffix all. ends_in_range on (rest_suffix q.edition.config.rules rule rest suffix) all
  ends_in_range (IsUnheld depth seen rule rest replies story plain unheld on) = λ suffix all. ends_in_range on (rest_suffix q.edition.config.rules rule rest suffix) all
  ends_in_range (IsFlowless depth seen rule rest state replies story plain held made none on) = λ suffix all. ends_in_range on (rest_suffix q.edition.config.rules rule rest suffix) all
  ends_in_range (IsStateless depth seen rule rest replies story plain held made on) = λ suffix all. ends_in_range on suffix all
  ends_in_range (IsWaiting depth seen rule rest state flow plain held made is) = λ suffix all. tt
  ends_in_range (IsMade depth seen rule rest state flow replies story plain held made is on) = λ suffix all. ends_in_range on suffix all.1
  ends_in_range (IsThere depth seen rule rest state flow replies story plain held made is on) = λ suffix all. ends_in_range on suffix all.1
  ends_in_range (IsLimited depth seen rule rest state flow count replies plain held made is) = λ suffix all. denied rule rest (causes.Limit count) q.edition.number suffix all.0
  ends_in_range (IsFull depth seen rule rest state flow count replies plain held made is) = λ suffix all. denied rule rest (causes.Full count) q.edition.number suffix all.0
  ends_in_range (IsMisread depth seen rule rest state flow reply replies plain held made is unfit) = λ suffix all. tt
  ends_in_range (IsDecided depth seen rule rest verdict replies decided) = λ suffix all.
      let known = rule_known rule rest suffix in
      record { verdict = verdict_in_range rule.action verdict known.action decided; number = known.number.most_ge; cause = tt }
  ends_in_range (IsCounted depth seen rule rest replies story is on) = λ suffix all. ends_in_range on (rest_suffix q.edition.config.rules rule rest suffix) all
  ends_in_range (IsChecked depth seen rule rest name replies story is on) = λ suffix all. ends_in_range on (rest_suffix q.edition.config.rules rule rest suffix) all
  ends_in_range (IsSkipped depth seen rule rest number replies story is on) = λ suffix all.
      ends_in_range on (from_suffix q.edition.config.rules rest number (rest_suffix q.edition.config.rules rule rest suffix)) all
  ends_in_range (IsDeepest depth seen rule rest number replies story is full on) = λ suffix all. ends_in_range on (rest_suffix q.edition.config.rules rule rest suffix) all
  ends_in_range (IsEnded depth seen rule rest number replies inner is lt on last) = λ suffix all. ends_in_range on (record { place = first_from number q.edition.config.rules; is = refl }) all
  ends_in_range (IsReturned depth seen rule rest number replies inner later left story is lt on returned then_on) = λ suffix all.
      let first = ends_in_range on (record { place = first_from number q.edition.config.rules; is = refl }) all in
      let others : AllByRecursion IsReply left = subst EndsInRange returned first in
      ends_in_range then_on (record { place = first_from (rule.number + 1) q.edition.config.rules; is = refl }) others
  ends_in_range (IsOutside seen rule rest replies story is on) = λ suffix all. ends_in_range on (rest_suffix q.edition.config.rules rule rest suffix) all
  ends_in_range (IsWithin depth seen rule rest replies is) = λ suffix all. all

  by_ending : (ending : Ending) (judgement : Judgement) → EndsInRange ending → outcome_by ending ≡ Whole judgement → IsInRange judgement
  unfolding EndsInRange
  by_ending (Ends judgement []) other range is = let same : judgement ≡ other = cc in subst (λ (j : Judgement). IsInRange j) same range
  by_ending (Ends judgement (reply ∷ left)) other range is = absurd (cc)
  by_ending (OpensAt op) other range is = absurd (cc)
  by_ending Mistakes other range is = absurd (cc)
  by_ending (Returns seen left) other range is = absurd (cc)

  judgement_in_range : (replies : List Reply) (judgement : Judgement) → AllByRecursion IsReply replies → (evaluate q replies).outcome ≡ Whole judgement → IsInRange judgement
  judgement_in_range replies judgement all whole =
      let reached = each_reaches q replies lawful.ordered in
      let told = runs_are_evaluations q replies reached.story lawful.ordered reached.runs in
      by_ending reached.story.ending judgement (ends_in_range reached.runs (record { place = 0; is = refl }) all) (ap (λ (e : Evaluated). e.outcome) told ∙ whole)

-- ---- an entry

judged_entry_in_range : (judgement : Judgement) → IsInRange judgement → 1 ≤ judgement.edition → judgement.edition < 2 ^ 64 → IsEntry (judged_entry judgement)
judged_entry_in_range judgement range first last = by_cause judgement.cause range.cause
  where
    judged : IsJudged judgement.verdict judgement.rule judgement.edition
    judged = record { code = range.verdict; number = range.number; first = first; last = last }

    by_cause : (cause : Cause) → IsCauseInRange cause → IsEntry (entry_by_cause cause judgement.verdict judgement.rule judgement.edition)
    by_cause causes.Rule small = judged
    by_cause (causes.Limit states) small = (judged, small)
    by_cause (causes.Full states) small = (judged, small)

replies_of_record : (at : ℕ) (asks : List LaneAsk) → AllByRecursion (λ ask. IsReply ask.reply) asks → AllByRecursion IsReply (replies_of (asks_of_record at asks))
replies_of_record at [] all = tt
replies_of_record at (ask ∷ asks) all = elim (cases_Bool (ask.at == at)) [
  | inl same ↦ rw same (all.0, replies_of_record at asks all.1)
  | inr other ↦ rw other (replies_of_record at asks all.1)
]

module _ (editions : List Published) (numbered : AreNumbered editions) (lawful : AllByRecursion (λ edition. IsConfiguration edition.config) editions) (few : length editions < 2 ^ 64)
    (asks : List LaneAsk) (answered : AllByRecursion (λ ask. IsReply ask.reply) asks)
  where
    by_edition : (o : Option Published) (at : ℕ) (packet : AnyIp) (port : Port) (second : ℕ) (judgement : Judgement) → edition_numbered editions judgement.edition ≡ o
        → IsSomeAnd o (λ edition. IsEvaluation edition packet port second (asks_of_record at asks) judgement) → IsEntry (judged_entry judgement)
    by_edition None at packet port second judgement found evaluation = absurd evaluation
    by_edition (Some edition) at packet port second judgement found evaluation =
        let q : Question = question_under edition packet port second in
        let replies : List Reply = replies_of (asks_of_record at asks) in
        let configured : IsConfiguration edition.config = in_place (λ (e : Published). IsConfiguration e.config) editions (judgement.edition - 1) edition lawful found in
        let range : IsInRange judgement = judgement_in_range q configured replies judgement (replies_of_record at asks answered) evaluation.outcome in
        let number : judgement.edition ≡ edition.number = judgement_names_edition q replies judgement evaluation.outcome in
        let place : edition.number ≡ judgement.edition - 1 + 1 = numbered (judgement.edition - 1) edition found in
        let within : judgement.edition - 1 < length editions = slice_get_within editions (judgement.edition - 1) edition found in
        judged_entry_in_range judgement range (omega (arith, number, place)) (omega (arith, number, place, within, few))

    by_input : (at : ℕ) (input : Input) (judgement : Judgement) → IsEntryFor at input (judged_entry judgement) → IsEvaluated editions asks at input (judged_entry judgement)
        → judgement_in (judged_entry judgement) ≡ Some judgement → IsEntry (judged_entry judgement)
    by_input at Other judgement entered evaluated is = let none : None ≡ Some judgement = ap judgement_in (sym entered) ∙ is in absurd (cc)
    by_input at (Malformed kind) judgement entered evaluated is = let none : None ≡ Some judgement = ap judgement_in (sym entered) ∙ is in absurd (cc)
    by_input at (Packet packet port second) judgement entered evaluated is =
        let here : IsEvaluatedTo editions packet port second (asks_of_record at asks) judgement =
        subst (λ (o : Option Judgement). IfSome o (IsEvaluatedTo editions packet port second (asks_of_record at asks))) is evaluated in
        by_edition (edition_numbered editions judgement.edition) at packet port second judgement refl here

    known_kind : (at : ℕ) (input : Input) (kind : ℕ) → IsEntryFor at input (entry.Malformed kind) → IsPrintableInput input → (1 ≤ kind) × (kind ≤ 5)
    known_kind at Other kind entered captured = let no : entry.Malformed kind ≡ entry.Other = entered in absurd (cc)
    known_kind at (Malformed other) kind entered captured = let same : other ≡ kind = cc in subst (λ (n : ℕ). (1 ≤ n) × (n ≤ 5)) same captured
    known_kind at (Packet packet port second) kind entered captured = absurd (cc)

    record_in_range : (at : ℕ) (input : Input) (own : DocketEntry) → IsEntryFor at input own → IsEvaluated editions asks at input own → IsPrintableInput input → IsEntry own
    record_in_range at input entry.Other entered evaluated captured = tt
    record_in_range at input (entry.Malformed kind) entered evaluated captured = known_kind at input kind entered captured
    record_in_range at input (entry.Judged verdict rule edition) entered evaluated captured = by_input at input (judgement_of verdict causes.Rule rule edition) entered evaluated refl
    record_in_range at input (entry.Limited verdict rule states edition) entered evaluated captured = by_input at input (judgement_of verdict (causes.Limit states) rule edition) entered evaluated refl
    record_in_range at input (entry.Full verdict rule states edition) entered evaluated captured = by_input at input (judgement_of verdict (causes.Full states) rule edition) entered evaluated refl

    records_in_range : (at : ℕ) (inputs : List Input) (entries : List DocketEntry) → EachRecord IsEntryFor at inputs entries → EachRecord (IsEvaluated editions asks) at inputs entries
        → AllByRecursion IsPrintableInput inputs → AllByRecursion IsEntry entries
    records_in_range at [] [] entered evaluated captured = tt
    records_in_range at [] (own ∷ entries) entered evaluated captured = absurd entered
    records_in_range at (input ∷ inputs) [] entered evaluated captured = absurd entered
    records_in_range at (input ∷ inputs) (own ∷ entries) entered evaluated captured =
        (record_in_range at input own entered.0 evaluated.0 captured.0, records_in_range (at + 1) inputs entries entered.1 evaluated.1 captured.1)

-- ---- the lanes

asks_answered : (lane after : ℕ) (entries : List Entry) → AllByRecursion IsAnswered entries → AllByRecursion (λ ask. IsReply ask.reply) (asks_in (asks_of lane after entries))
asks_answered lane after [] all = tt
asks_answered lane after (Publish number ∷ entries) all = asks_answered lane number entries all.1
asks_answered lane after (Ask by op reply at ∷ entries) all = elim (cases_Bool (by == lane)) [
  | inl same ↦ rw same (all.0, asks_answered lane after entries all.1)
  | inr other ↦ rw other (asks_answered lane after entries all.1)
]

-- a docket has a number for each record, and each entry is in its ranges
pub record IsDocketInRange (docket : DocketValue) : Type 0 where
  pub few : length docket.entries < 2 ^ 64
  pub entries : AllByRecursion IsEntry docket.entries

-- what was entered for the lanes is in the ranges of their records' lines
pub dockets_in_range : (r : RecordValue) (lane : ℕ) (inputs : List (List Input)) (dockets : List DocketValue) (tallies : List (List Counted)) (trackers : List ℕ) → EachLane (LaneStands r) lane inputs dockets tallies trackers
    → AreNumbered r.editions → AllByRecursion (λ edition. IsConfiguration edition.config) r.editions → length r.editions < 2 ^ 64 → AllByRecursion IsAnswered r.journal.entries
    → AllByRecursion (λ docket. length docket.entries < 2 ^ 64) dockets → AllByRecursion (λ own. AllByRecursion IsPrintableInput own) inputs → AllByRecursion IsDocketInRange dockets
dockets_in_range r lane inputs [] tallies trackers each numbered lawful few answered all met = tt
dockets_in_range r lane [] (docket ∷ dockets) tallies trackers each numbered lawful few answered all met = absurd each
dockets_in_range r lane (own ∷ inputs) (docket ∷ dockets) [] trackers each numbered lawful few answered all met = absurd each
dockets_in_range r lane (own ∷ inputs) (docket ∷ dockets) (tally ∷ tallies) [] each numbered lawful few answered all met = absurd each
dockets_in_range r lane (own ∷ inputs) (docket ∷ dockets) (tally ∷ tallies) (tracker ∷ trackers) each numbered lawful few answered all met =
    let stands = each.0 in
    let here : IsDocketInRange docket = record {
      few = all.0;
      entries = records_in_range r.editions numbered lawful few (lane_asks lane r.journal.entries) (asks_answered lane 0 r.journal.entries answered) 1 own docket.entries stands.entered stands.evaluated met.0;
    } in
    (here, dockets_in_range r (lane + 1) inputs dockets tallies trackers each.1 numbered lawful few answered all.1 met.1)
