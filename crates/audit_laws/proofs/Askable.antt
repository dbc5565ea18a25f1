-- Each ask of a legal record is told by its line under the edition in force, and the question is in its ranges.
use Rattle.std.proofs.Common.{◌≡◌, ℕ, zero, suc, ◌+◌, ◌-◌, ◌≤◌, ◌<◌, ◌==◌, true, Option, Some, None, List, [], ◌∷◌, ◌++◌, length, map, refl, sym, ap, subst, ◌∙◌, inl, inr, arith, append_assoc, ◌^◌, length-append}
use Rattle.std.specs.List.{AllByRecursion}
use Rattle.std.specs.Prelude.{IfSome, IsSomeAnd, slice_get}
use Rattle.std.proofs.lemmas.Bool.{cases_Bool}
use Rattle.counter_book.specs.declared.tally.Count.{Count}
use Rattle.dyn_states.specs.StateObject.{StateObject, after_ask}
use Rattle.eval_engine.specs.Dockets.{DocketValue, judgement_in}
use Rattle.eval_engine.specs.Question.{Question, question_under}
use Rattle.eval_engine.specs.declared.docket_entry.DocketEntry.{DocketEntry}
use Rattle.eval_engine.specs.declared.judgement.Judgement.{Judgement}
use Rattle.evaluation_laws.proofs.Acting.{installs_are_of_rules}
use Rattle.evaluation_laws.specs.Laws.{is_installed}
use Rattle.fw_base.specs.declared.port.Port.{Port}
use Rattle.report_texts.specs.JournalText.{flow_of_ask, name_numbered}
use Rattle.state_asks.specs.Asked.{asked_second}
use Rattle.fw_rule.specs.declared.command.Command.{Command}
use Rattle.fw_world.proofs.Records.{asks_are_within}
use Rattle.fw_world.specs.Asks.{LaneAsk, AreAsksOf, IsAskOfEntry, IsJudgedUnder, asks_in, asks_of_record, lane_asks, ops_of, replies_of}
use Rattle.fw_world.specs.Editions.{AreEditionsFrom, edition_numbered}
use Rattle.fw_world.specs.Entries.{EachRecord, IsEntryFor, IsEvaluated, IsEvaluatedTo, IsEvaluation}
use Rattle.fw_world.specs.Inputs.{Input, Other, Malformed, Packet}
use Rattle.fw_world.specs.Lanes.{EachLane, LaneStands}
use Rattle.fw_world.specs.Legal.{IsLegal}
use Rattle.fw_world.specs.Publications.{facts_of}
use Rattle.fw_world.specs.RecordValue.{RecordValue}
use Rattle.generation_store.specs.Published.{Published}
use Rattle.ip6_headers.specs.declared.any_ip.AnyIp.{AnyIp}
use Rattle.packet_headers.specs.declared.flows.Flow.{Flow}
use Rattle.report_reading.specs.AskLines.{IsAsk, IsQuestion}
use Rattle.report_reading.specs.FlowTexts.{IsFlow}
use Rattle.report_reading.specs.LaneLines.{IsPublication}
use Rattle.rule_chain.specs.Chain.{IsConfiguration}
use Rattle.rule_chain.specs.Configuration.{Configuration}
use Rattle.state_asks.specs.Flags.{HasKeptFlags}
use Rattle.state_asks.specs.declared.op.FlowName.TheVariants.{Any, Named}
use Rattle.state_asks.specs.declared.op.Op.{Op}
use Rattle.state_asks.specs.declared.op.Op.TheVariants.{Lookup, Install}
use Rattle.state_asks.specs.declared.reply.Reply.{Reply}
use Rattle.state_journal.specs.Entries.{AreOfLanes, publications}
use Rattle.state_journal.specs.Items.{asks_of}
use Rattle.state_journal.specs.Journal.{BeginsWithOne, IsLawfulFrom, no_states, object_after_publication}
use Rattle.state_journal.specs.declared.entry.Entry.{Entry}
use Rattle.state_journal.specs.declared.entry.Entry.TheVariants.{Publish, Ask}
use Rattle.run_audit.proofs.LaneAsks.{all_from_places, passed_in_place, record_in}
use Rattle.run_audit.proofs.Publishing.{are_numbered}
use Rattle.run_audit.specs.PrintedJournals.{AreAskable, IsAskable, IsPrintable}
use Rattle.run_audit.specs.Replaying.{AreNumbered}
use Rattle.audit_laws.proofs.AskedNames.{IsAskedBelow, IsAskedSo, asked_names}
use Rattle.audit_laws.proofs.HeldStates.{IsAnswered, IsAskedInRange, IsObjectInRange, IsOpInRange, IsStateInRange, answers_in_range, object_in_range}
use Rattle.audit_laws.proofs.KnownAsks.{ask_again}
use Rattle.audit_laws.proofs.Lists.{in_place}
use Rattle.audit_laws.proofs.NameFronts.{AreFronts, IsFront, editions_front}
use Rattle.audit_laws.specs.Printable.{IsFlowNameText, IsPrintableInput, last_names}
use Rattle.report_reading.proofs.Words.{same_number}
use Rattle.run_audit.proofs.ReplayAgain.{seam}

-- ---- one ask

of_images : {X Y : Type 0} (P : Y → Type 0) (f : X → Y) (xs : List X) → AllByRecursion P (map f xs) → AllByRecursion (λ x. P (f x)) xs
of_images P f [] all = tt
of_images P f (x ∷ xs) all = (all.0, of_images P f xs all.1)

-- a name of flows has 1 to 63 bytes of names, and isn't `any`
abbrev AreFlowNames : List (List ℕ) → Type 0
AreFlowNames names = AllByRecursion IsFlowNameText names

-- an ask under an edition is told by its line, and what it asks is in its ranges
pub record IsKnownUnder (names : List (List ℕ)) (edition : Option Published) (op : Op) : Type 0 where
  pub askable : IsAskable names edition op
  pub question : IsQuestion names op
  pub rule : IsOpInRange op
  pub second : asked_second op < 2 ^ 32
  pub flow : IsFlow (flow_of_ask op)
  pub flags : HasKeptFlags op

-- so it is with an ask of a lane, for a record whose number is in its range
pub record IsKnownAsk (names : List (List ℕ)) (editions : List Published) (ask : LaneAsk) : Type 0 where
  pub known : IsKnownUnder names (edition_numbered editions ask.after) ask.op
  pub first : 1 ≤ ask.at
  pub last : ask.at < 2 ^ 64

name_at : (P : List ℕ → Type 0) (names : List (List ℕ)) (number : ℕ) → AllByRecursion P names → number < length names → P (name_numbered names number)
name_at P [] number all less = absurd (omega (arith, less))
name_at P (name ∷ names) zero all less = all.0
name_at P (name ∷ names) (suc number) all less = name_at P names number all.1 (omega (arith, less))

-- what an evaluation asks is in its ranges
question_of : (names : List (List ℕ)) (most : ℕ) (op : Op) → most ≤ length names → AreFlowNames names → IsAskedBelow most op → IsQuestion names op
question_of names most (Lookup flags flow second Any) few named below = tt
question_of names most (Lookup flags flow second (Named number)) few named below =
    let is = name_at IsFlowNameText names number named (omega (arith, few, below)) in
    (is.text, is.other)
question_of names most (Install flags flow second rule limit number) few named below =
    let low = below.0 in
    let is = name_at IsFlowNameText names number named (omega (arith, few, low)) in
    (below.1, (below.2, (is.text, is.other)))

rule_of : (most : ℕ) (op : Op) → IsAskedBelow most op → IsOpInRange op
rule_of most (Lookup flags flow second name) below = tt
rule_of most (Install flags flow second rule limit number) below = record { id = below.1; number = below.3 }

module _ (names : List (List ℕ)) (editions : List Published) (lawful : AllByRecursion (λ edition. IsConfiguration edition.config) editions) (fronts : AreFronts names editions)
    (named : AreFlowNames names)
  where
    -- an ask of an evaluation under an edition is told by its line
    evaluated_ask : (edition : Published) (place : ℕ) (packet : AnyIp) (port : Port) (second : ℕ) (captured : IsPrintableInput (Packet packet port second)) (asks : List LaneAsk) (k : ℕ) (ask : LaneAsk) (judgement : Judgement) → slice_get editions place ≡ Some edition
        → slice_get asks k ≡ Some ask → IsEvaluation edition packet port second (asks_of_record ask.at asks) judgement → IsKnownUnder names (Some edition) ask.op
    evaluated_ask edition place packet port second captured asks k ask judgement found is evaluation =
        let q : Question = question_under edition packet port second in
        let replies : List Reply = replies_of (asks_of_record ask.at asks) in
        let configured : IsConfiguration edition.config = in_place (λ (e : Published). IsConfiguration e.config) editions place edition lawful found in
        let front : IsFront edition.config.names names = in_place (λ (e : Published). IsFront e.config.names names) editions place edition fronts found in
        let asked = evaluation.asked in
        let so : AllByRecursion (IsAskedSo q) (ops_of (asks_of_record ask.at asks)) = subst (λ (ops : List Op). AllByRecursion (IsAskedSo q) ops) asked (asked_names q replies configured) in
        let installed : AllByRecursion (λ op. is_installed q op ≡ true) (ops_of (asks_of_record ask.at asks)) =
        subst (λ (ops : List Op). AllByRecursion (λ op. is_installed q op ≡ true) ops) asked (installs_are_of_rules q replies configured) in
        let own : IsAskedSo q ask.op =
        passed_in_place (λ (one : LaneAsk). IsAskedSo q one.op) (λ (one : LaneAsk). one.at == ask.at) asks k ask
        (of_images (IsAskedSo q) (λ (one : LaneAsk). one.op) (asks_of_record ask.at asks) so) is (same_number ask.at) in
        let own_below : IsAskedBelow (length edition.config.names) ask.op = own.below in
        let own_installed : is_installed q ask.op ≡ true =
        passed_in_place (λ (one : LaneAsk). is_installed q one.op ≡ true) (λ (one : LaneAsk). one.at == ask.at) asks k ask
        (of_images (λ (op : Op). is_installed q op ≡ true) (λ (one : LaneAsk). one.op) (asks_of_record ask.at asks) installed) is (same_number ask.at) in
        let long : length names ≡ length edition.config.names + length front.more = ap length front.is ∙ length-append edition.config.names front.more in
        record {
          askable = subst (λ (all : List (List ℕ)). IsAskable all (Some edition) ask.op) (sym front.is) (ask_again q front.more ask.op configured own_below own_installed);
          question = question_of names (length edition.config.names) ask.op (omega (arith, long)) named own_below;
          rule = rule_of (length edition.config.names) ask.op own_below;
          second = subst (λ (n : ℕ). n < 2 ^ 32) (sym own.packet.second) captured.0;
          flow = subst (λ (o : Option Flow). IfSome o IsFlow) own.packet.flow captured.1;
          flags = own.packet.flags;
        }

    by_edition : (o : Option Published) (number : ℕ) (packet : AnyIp) (port : Port) (second : ℕ) (captured : IsPrintableInput (Packet packet port second)) (asks : List LaneAsk) (k : ℕ) (ask : LaneAsk) (judgement : Judgement) → edition_numbered editions number ≡ o
        → slice_get asks k ≡ Some ask → IsSomeAnd o (λ edition. IsEvaluation edition packet port second (asks_of_record ask.at asks) judgement) → IsKnownUnder names o ask.op
    by_edition None number packet port second captured asks k ask judgement found is evaluation = absurd evaluation
    by_edition (Some edition) number packet port second captured asks k ask judgement found is evaluation =
        evaluated_ask edition (number - 1) packet port second captured asks k ask judgement found is evaluation

    by_input : (input : Input) (captured : IsPrintableInput input) (own : DocketEntry) (judgement : Judgement) (asks : List LaneAsk) (k : ℕ) (ask : LaneAsk) → judgement_in own ≡ Some judgement → judgement.edition ≡ ask.after
        → slice_get asks k ≡ Some ask → IsEntryFor ask.at input own → IsEvaluated editions asks ask.at input own → IsKnownUnder names (edition_numbered editions ask.after) ask.op
    by_input Other captured own judgement asks k ask judged under is entered evaluated =
        let none : None ≡ Some judgement = ap judgement_in (sym entered) ∙ judged in
        absurd (cc)
    by_input (Malformed kind) captured own judgement asks k ask judged under is entered evaluated =
        let none : None ≡ Some judgement = ap judgement_in (sym entered) ∙ judged in
        absurd (cc)
    by_input (Packet packet port second) captured own judgement asks k ask judged under is entered evaluated =
        let here : IsEvaluatedTo editions packet port second (asks_of_record ask.at asks) judgement =
        subst (λ (o : Option Judgement). IfSome o (IsEvaluatedTo editions packet port second (asks_of_record ask.at asks))) judged evaluated in
        let there = subst (λ (n : ℕ). IsSomeAnd (edition_numbered editions n) (λ edition. IsEvaluation edition packet port second (asks_of_record ask.at asks) judgement)) under here in
        by_edition (edition_numbered editions ask.after) ask.after packet port second captured asks k ask judgement refl is there

    module _ (inputs : List Input) (entries : List DocketEntry) (asks : List LaneAsk) (are : AreAsksOf entries asks) (entered : EachRecord IsEntryFor 1 inputs entries)
        (evaluated : EachRecord (IsEvaluated editions asks) 1 inputs entries) (captured : AllByRecursion IsPrintableInput inputs)
      where
        -- the record's input, with what was entered for it
        HasInput : ℕ → DocketEntry → Type 0
        HasInput at own = (input : Input) × IsEntryFor at input own × IsEvaluated editions asks at input own

        all_facts : (at : ℕ) (ins : List Input) (outs : List DocketEntry) → EachRecord IsEntryFor at ins outs → EachRecord (IsEvaluated editions asks) at ins outs → AllByRecursion IsPrintableInput ins
            → EachRecord (λ n input own. IsEntryFor n input own × IsEvaluated editions asks n input own × IsPrintableInput input) at ins outs
        all_facts at [] [] one other met = tt
        all_facts at [] (out ∷ outs) one other met = one
        all_facts at (input ∷ ins) [] one other met = one
        all_facts at (input ∷ ins) (out ∷ outs) one other met = ((one.0, other.0, met.0), all_facts (at + 1) ins outs one.1 other.1 met.1)

        by_judgement : (o : Option Judgement) (k : ℕ) (ask : LaneAsk) (own : DocketEntry) → judgement_in own ≡ o → slice_get asks k ≡ Some ask → 1 ≤ ask.at → slice_get entries (ask.at - 1) ≡ Some own
            → IsSomeAnd o (λ j. j.edition ≡ ask.after) → IsKnownUnder names (edition_numbered editions ask.after) ask.op
        by_judgement None k ask own judged is first found under = absurd under
        by_judgement (Some judgement) k ask own judged is first found under =
            let (input, facts) = record_in (λ n one out. IsEntryFor n one out × IsEvaluated editions asks n one out × IsPrintableInput one) 1 inputs entries (ask.at - 1) own (all_facts 1 inputs entries entered evaluated captured) found in
            let place : 1 + (ask.at - 1) ≡ ask.at = omega (arith, first) in
            let here = subst (λ (n : ℕ). IsEntryFor n input own × IsEvaluated editions asks n input own × IsPrintableInput input) place facts in
            by_input input here.2 own judgement asks k ask judged under is here.0 here.1

        by_entry : (o : Option DocketEntry) (k : ℕ) (ask : LaneAsk) → slice_get entries (ask.at - 1) ≡ o → slice_get asks k ≡ Some ask → 1 ≤ ask.at → IsSomeAnd o (IsJudgedUnder ask.after)
            → IsKnownUnder names (edition_numbered editions ask.after) ask.op
        by_entry None k ask found is first under = absurd under
        by_entry (Some own) k ask found is first under = by_judgement (judgement_in own) k ask own refl is first found under

        -- each ask of a lane is told by its line under the edition before it
        pub lane_known : length entries < 2 ^ 64 → AllByRecursion (IsKnownAsk names editions) asks
        lane_known few = all_from_places (IsKnownAsk names editions) asks one
          where
            one : (k : ℕ) (ask : LaneAsk) → slice_get asks k ≡ Some ask → IsKnownAsk names editions ask
            one k ask is =
                let first = in_place (λ (other : LaneAsk). 1 ≤ other.at) asks k ask are.numbered is in
                let last = in_place (λ (other : LaneAsk). other.at ≤ length entries) asks k ask (asks_are_within entries asks are) is in
                record {
                  known = by_entry (slice_get entries (ask.at - 1)) k ask refl is first (in_place (IsAskOfEntry entries) asks k ask are.entered is);
                  first = first;
                  last = omega (arith, last, few);
                }

-- ---- the journal

module _ (names : List (List ℕ)) (editions : List Published) (numbered : AreNumbered editions) (factual : AllByRecursion (λ edition. edition.facts.number ≡ edition.number) editions) (lanes : ℕ) where
  -- the asks of each lane from this publication on are told by their lines
  Tell : ℕ → List Entry → Type 0
  Tell after entries = (lane : ℕ) → 1 ≤ lane → lane ≤ lanes → AllByRecursion (IsKnownAsk names editions) (asks_in (asks_of lane after entries))

  first_told : (after lane : ℕ) (op : Op) (reply : Reply) (at : ℕ) (entries : List Entry) → 1 ≤ lane → lane ≤ lanes → Tell after (Ask lane op reply at ∷ entries)
      → IsKnownAsk names editions (record { after = after; at = at; op = op; reply = reply })
  unfolding Tell
  first_told after lane op reply at entries first last tell =
      let own : AllByRecursion (IsKnownAsk names editions) (asks_in (asks_of lane after (Ask lane op reply at ∷ entries))) = tell lane first last in
      let here : AllByRecursion (IsKnownAsk names editions) (record { after = after; at = at; op = op; reply = reply } ∷ asks_in (asks_of lane after entries)) =
      rw (same_number lane) at own in
      here.0

  others_tell : (after lane : ℕ) (op : Op) (reply : Reply) (at : ℕ) (entries : List Entry) → Tell after (Ask lane op reply at ∷ entries) → Tell after entries
  unfolding Tell
  others_tell after lane op reply at entries tell = λ other first last. behind other (tell other first last)
    where
      behind : (other : ℕ) → AllByRecursion (IsKnownAsk names editions) (asks_in (asks_of other after (Ask lane op reply at ∷ entries)))
          → AllByRecursion (IsKnownAsk names editions) (asks_in (asks_of other after entries))
      behind other all = elim (cases_Bool (lane == other)) [
        | inl same ↦
            let both : AllByRecursion (IsKnownAsk names editions) (record { after = after; at = at; op = op; reply = reply } ∷ asks_in (asks_of other after entries)) =
            rw same at all in
            both.1
        | inr apart ↦ rw apart at all
      ]

  publications_tell : (after number : ℕ) (entries : List Entry) → Tell after (Publish number ∷ entries) → Tell number entries
  unfolding Tell
  publications_tell after number entries tell = tell

  -- the next edition is the one of its number
  next_numbered : (done rest : List Published) (next : Published) → editions ≡ done ++ next ∷ rest → edition_numbered editions next.number ≡ Some next
  next_numbered done rest next split =
      let found : slice_get editions (length done) ≡ Some next = ap (λ (es : List Published). slice_get es (length done)) split ∙ seam done rest next in
      let number : next.number ≡ length done + 1 = numbered (length done) next found in
      let place : next.number - 1 ≡ length done = omega (arith, number) in
      ap (slice_get editions) place ∙ found

  own_number : (done rest : List Published) (next : Published) → editions ≡ done ++ next ∷ rest → next.facts.number ≡ next.number
  own_number done rest next split =
      let found : slice_get editions (length done) ≡ Some next = ap (λ (es : List Published). slice_get es (length done)) split ∙ seam done rest next in
      in_place (λ (e : Published). e.facts.number ≡ e.number) editions (length done) next factual found

  askable_from : (done rest : List Published) (after : ℕ) (object : StateObject) (entries : List Entry) → editions ≡ done ++ rest → IsLawfulFrom object (facts_of rest) entries → AreOfLanes lanes entries
      → Tell after entries → AreAskable names (edition_numbered editions after) rest entries
  askable_from done rest after object [] split lawful of_lanes tell = tt
  askable_from done [] after object (Publish number ∷ entries) split lawful of_lanes tell = absurd lawful
  askable_from done (next ∷ rest) after object (Publish number ∷ entries) split lawful of_lanes tell =
      let same : number ≡ next.number = lawful.0 ∙ own_number done rest next split in
      let again : editions ≡ (done ++ next ∷ []) ++ rest = split ∙ sym (append_assoc done (next ∷ []) rest) in
      let last : edition_numbered editions number ≡ Some next = ap (edition_numbered editions) same ∙ next_numbered done rest next split in
      let more = askable_from (done ++ next ∷ []) rest number (object_after_publication object next.facts) entries again lawful.1 of_lanes.1 (publications_tell after number entries tell) in
      (same, subst (λ (o : Option Published). AreAskable names o rest entries) last more)
  askable_from done [] after object (Ask lane op reply at ∷ entries) split lawful of_lanes tell = (
    (first_told after lane op reply at entries of_lanes.0.0 of_lanes.0.1 tell).known.askable,
    askable_from done [] after (after_ask object op) entries split lawful.1 of_lanes.1 (others_tell after lane op reply at entries tell),
  )
  askable_from done (next ∷ rest) after object (Ask lane op reply at ∷ entries) split lawful of_lanes tell = (
    (first_told after lane op reply at entries of_lanes.0.0 of_lanes.0.1 tell).known.askable,
    askable_from done (next ∷ rest) after (after_ask object op) entries split lawful.1 of_lanes.1 (others_tell after lane op reply at entries tell),
  )

  -- installs are of rules in their ranges
  asked_from : (after : ℕ) (entries : List Entry) → AreOfLanes lanes entries → Tell after entries → AllByRecursion IsAskedInRange entries
  asked_from after [] of_lanes tell = tt
  asked_from after (Publish number ∷ entries) of_lanes tell = (tt, asked_from number entries of_lanes.1 (publications_tell after number entries tell))
  asked_from after (Ask lane op reply at ∷ entries) of_lanes tell =
      ((first_told after lane op reply at entries of_lanes.0.0 of_lanes.0.1 tell).known.rule, asked_from after entries of_lanes.1 (others_tell after lane op reply at entries tell))

  -- and in the ranges of their lines, where what is said of nothing but asks is
  printable_from : (after : ℕ) (entries : List Entry) → lanes ≤ 16 → AreOfLanes lanes entries → AllByRecursion IsAnswered entries → AllByRecursion IsPublication (publications entries) → Tell after entries
      → AllByRecursion (IsPrintable names) entries
  printable_from after [] few of_lanes answered numbers tell = tt
  printable_from after (Publish number ∷ entries) few of_lanes answered numbers tell =
      (numbers.0, printable_from number entries few of_lanes.1 answered.1 numbers.1 (publications_tell after number entries tell))
  printable_from after (Ask lane op reply at ∷ entries) few of_lanes answered numbers tell =
      let first = of_lanes.0.0 in
      let last = of_lanes.0.1 in
      let known = first_told after lane op reply at entries first last tell in
      let own : IsAsk names lane at op reply = record {
        lane_first = first;
        lane_last = omega (arith, last, few);
        first = known.first;
        last = known.last;
        second = known.known.second;
        question = known.known.question;
        flow = known.known.flow;
        flags = known.known.flags;
        answer = answered.0;
      } in
      (own, printable_from after entries few of_lanes.1 answered.1 numbers (others_tell after lane op reply at entries tell))

-- ---- a legal record

own_facts : (number : ℕ) (config : Configuration) (commands : List Command) (editions : List Published) → AreEditionsFrom number config commands editions → AllByRecursion (λ edition. edition.facts.number ≡ edition.number) editions
own_facts number config commands [] are = absurd are
own_facts number config [] (edition ∷ []) are = (are.factual.numbered, tt)
own_facts number config [] (edition ∷ next ∷ editions) are = absurd are
own_facts number config (command ∷ commands) (edition ∷ editions) are = (are.0.factual.numbered, own_facts (number + 1) are.1 commands editions are.3)

-- what stands before the first publication is told by no line
whatever_before : (names : List (List ℕ)) (a b : Option Published) (editions : List Published) (entries : List Entry) → BeginsWithOne entries → AreAskable names a editions entries → AreAskable names b editions entries
whatever_before names a b editions [] begins are = absurd begins
whatever_before names a b [] (Publish number ∷ entries) begins are = are
whatever_before names a b (next ∷ rest) (Publish number ∷ entries) begins are = are
whatever_before names a b editions (Ask lane op reply at ∷ entries) begins are = absurd begins

module _ (r : RecordValue) (names : List (List ℕ)) (lawful : AllByRecursion (λ edition. IsConfiguration edition.config) r.editions) (fronts : AreFronts names r.editions)
    (named : AreFlowNames names)
  where
    lane_tells : (first l : ℕ) (inputs : List (List Input)) (dockets : List DocketValue) (tallies : List (List Count)) (trackers : List ℕ) → EachLane (LaneStands r) first inputs dockets tallies trackers
        → l < length inputs → AllByRecursion (λ docket. length docket.entries < 2 ^ 64) dockets → AllByRecursion (λ own. AllByRecursion IsPrintableInput own) inputs → AllByRecursion (IsKnownAsk names r.editions) (lane_asks (first + l) r.journal.entries)
    lane_tells first l [] dockets tallies trackers each less few met = absurd (omega (arith, less))
    lane_tells first l (own ∷ inputs) [] tallies trackers each less few met = absurd each
    lane_tells first l (own ∷ inputs) (docket ∷ dockets) [] trackers each less few met = absurd each
    lane_tells first l (own ∷ inputs) (docket ∷ dockets) (tally ∷ tallies) [] each less few met = absurd each
    lane_tells first zero (own ∷ inputs) (docket ∷ dockets) (tally ∷ tallies) (tracker ∷ trackers) each less few met =
        let here : first ≡ first + 0 = omega arith in
        subst (λ (n : ℕ). AllByRecursion (IsKnownAsk names r.editions) (lane_asks n r.journal.entries)) here
        (lane_known names r.editions lawful fronts named own docket.entries (lane_asks first r.journal.entries) each.0.asked each.0.entered each.0.evaluated met.0 few.0)
    lane_tells first (suc l) (own ∷ inputs) (docket ∷ dockets) (tally ∷ tallies) (tracker ∷ trackers) each less few met =
        let place : first + 1 + l ≡ first + suc l = omega arith in
        subst (λ (n : ℕ). AllByRecursion (IsKnownAsk names r.editions) (lane_asks n r.journal.entries)) place
        (lane_tells (first + 1) l inputs dockets tallies trackers each.1 (omega (arith, less)) few.1 met.1)

    each_tells : (inputs : List (List Input)) → EachLane (LaneStands r) 1 inputs r.dockets r.tallies r.trackers → AllByRecursion (λ docket. length docket.entries < 2 ^ 64) r.dockets → AllByRecursion (λ own. AllByRecursion IsPrintableInput own) inputs → (lane : ℕ) → 1 ≤ lane → lane ≤ length inputs
        → AllByRecursion (IsKnownAsk names r.editions) (lane_asks lane r.journal.entries)
    each_tells inputs each few met lane first last =
        let place : 1 + (lane - 1) ≡ lane = omega (arith, first) in
        let less : lane - 1 < length inputs = omega (arith, first, last) in
        subst (λ (n : ℕ). AllByRecursion (IsKnownAsk names r.editions) (lane_asks n r.journal.entries)) place
        (lane_tells 1 (lane - 1) inputs r.dockets r.tallies r.trackers each less few met)

numbers_from : (number : ℕ) (config : Configuration) (commands : List Command) (editions : List Published) → AreEditionsFrom number config commands editions → 1 ≤ number → number + length editions ≤ 2 ^ 64
    → AllByRecursion IsPublication (map (λ edition. edition.number) editions)
numbers_from number config commands [] are first few = absurd are
numbers_from number config [] (edition ∷ []) are first few =
    let is = are.numbered in
    (record { first = omega (arith, is, first); last = omega (arith, is, few) }, tt)
numbers_from number config [] (edition ∷ next ∷ editions) are first few = absurd are
numbers_from number config (command ∷ commands) (edition ∷ editions) are first few =
    let is = are.0.numbered in
    let some : 1 ≤ length editions = some_from (number + 1) are.1 commands editions are.3 in (
      record { first = omega (arith, is, first); last = omega (arith, is, few, some) },
      numbers_from (number + 1) are.1 commands editions are.3 (omega (arith, first)) (omega (arith, few)),
    )
  where
    some_from : (n : ℕ) (made : Configuration) (others : List Command) (es : List Published) → AreEditionsFrom n made others es → 1 ≤ length es
    some_from n made others [] there = absurd there
    some_from n made others (one ∷ es) there = omega arith

-- What is known of the asks of a legal record's journal.
module _ (config : Configuration) (commands : List Command) (inputs : List (List Input)) (r : RecordValue) (legal : IsLegal config commands inputs r)
    (lawful : AllByRecursion (λ edition. IsConfiguration edition.config) r.editions) (named : AreFlowNames (last_names r)) (few : AllByRecursion (λ docket. length docket.entries < 2 ^ 64) r.dockets)
    (met : AllByRecursion (λ own. AllByRecursion IsPrintableInput own) inputs)
  where
    asks_tell : Tell (last_names r) r.editions (are_numbered config commands r.editions legal.editions) (own_facts 1 config commands r.editions legal.editions) (length inputs) 0 r.journal.entries
    unfolding Tell
    asks_tell = each_tells r (last_names r) lawful ((editions_front 1 config commands r.editions legal.editions).1) named inputs legal.lanes few met

    -- each is told by its line under the edition that was published last before it
    pub asks_are_told : AreAskable (last_names r) None r.editions r.journal.entries
    asks_are_told =
        whatever_before (last_names r) (edition_numbered r.editions 0) None r.editions r.journal.entries legal.lawful.begins
        (askable_from (last_names r) r.editions (are_numbered config commands r.editions legal.editions) (own_facts 1 config commands r.editions legal.editions) (length inputs) [] r.editions 0 no_states r.journal.entries
        refl legal.lawful.replied legal.asked asks_tell)

    installs : AllByRecursion IsAskedInRange r.journal.entries
    installs = asked_from (last_names r) r.editions (are_numbered config commands r.editions legal.editions) (own_facts 1 config commands r.editions legal.editions) (length inputs) 0 r.journal.entries legal.asked asks_tell

    none_held : IsObjectInRange no_states
    none_held = record { states = tt; few = omega arith; most = omega arith }

    -- the replies are in the ranges of their lines
    pub answers : AllByRecursion IsAnswered r.journal.entries
    answers = answers_in_range no_states (facts_of r.editions) r.journal.entries none_held legal.lawful.replied installs

    -- and so are the states that are left
    pub states : AllByRecursion IsStateInRange r.journal.object.states
    states = subst (λ (o : StateObject). AllByRecursion IsStateInRange o.states) (sym legal.object) (object_in_range no_states (facts_of r.editions) r.journal.entries none_held legal.lawful.replied installs).states

    -- and the journal is in the ranges of its lines
    pub entries_in_range : length inputs ≤ 16 → length r.editions < 2 ^ 64 → AllByRecursion (IsPrintable (last_names r)) r.journal.entries
    entries_in_range lanes short =
        let numbers : AllByRecursion IsPublication (publications r.journal.entries) =
        subst (λ (ns : List ℕ). AllByRecursion IsPublication ns) (sym legal.published) (numbers_from 1 config commands r.editions legal.editions (omega arith) (omega (arith, short))) in
        printable_from (last_names r) r.editions (are_numbered config commands r.editions legal.editions) (own_facts 1 config commands r.editions legal.editions) (length inputs) 0 r.journal.entries lanes legal.asked answers numbers asks_tell
