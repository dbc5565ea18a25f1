-- A packet's record beside its line, its asks and its evaluation.
use Rattle.std.proofs.Common.{◌≡◌, ℕ, ◌<◌, ◌≤◌, List, [], ◌∷◌, ◌++◌, length, map, Option, Some, None, refl, sym, ap, ◌∙◌, subst, arith}
use Rattle.std.specs.Prelude.{IsSome, IfSome, IsSomeAnd, OnSome, option_and_then}
use Rattle.std.proofs.lemmas.List.Elements.{All-weaker}
use Rattle.eval_engine.proofs.Hits.{hits_are_given_out}
use Rattle.eval_engine.specs.Question.{Question, question_under}
use Rattle.eval_engine.specs.Standing.{counts_after}
use Rattle.fw_world.proofs.Running.{RisesBy-after}
use Rattle.rule_chain.specs.Chain.{IsConfiguration}
use Rattle.std.specs.Option.{option_map}
use Rattle.counter_book.specs.Counts.{counted_under}
use Rattle.counter_book.specs.declared.tally.Count.{Count}
use Rattle.eval_engine.specs.Dockets.{judged_entry, judgement_in}
use Rattle.eval_engine.specs.Evaluated.{Whole}
use Rattle.eval_engine.specs.Evaluation.{evaluate}
use Rattle.eval_engine.specs.declared.docket_entry.DocketEntry.{DocketEntry}
use Rattle.eval_engine.specs.declared.docket_entry.DocketEntry.TheVariants.{Other, Malformed, Judged, Limited, Full}
use Rattle.eval_engine.specs.declared.judgement.Judgement.{Judgement}
use Rattle.eval_engine.proofs.Dockets.{judgement_in-judged}
use Rattle.fw_base.specs.declared.port.Port.{Port}
use Rattle.fw_world.proofs.Judging.{count_in-hits}
use Rattle.fw_world.specs.AskRuns.{RisesBy, raised_by}
use Rattle.fw_world.specs.Asks.{LaneAsk, asks_of_record, ops_of, replies_of}
use Rattle.fw_world.specs.Editions.{edition_numbered, judging_edition}
use Rattle.fw_world.specs.Entries.{IsEvaluation, IsEvaluatedTo}
use Rattle.fw_world.specs.Inputs.{Packet}
use Rattle.fw_world.specs.Tallies.{Hit, hits_under, IsTallyOf, record_hits, packet_hits}
use Rattle.generation_store.specs.Published.{Published}
use Rattle.ip6_headers.specs.Either.{total_of}
use Rattle.ip6_headers.specs.declared.any_ip.AnyIp.{AnyIp}
use Rattle.report_reading.specs.RecordLines.{printed, printed_rule}
use Rattle.state_asks.specs.declared.op.Op.{Op}
use Rattle.state_asks.specs.declared.reply.Reply.{Reply}
use Rattle.run_audit.specs.AskStands.{asked_of}
use Rattle.run_audit.specs.Judging.{ToldValue, AreTimely, IsToldSo, asks_told, line_naming}
use Rattle.run_audit.specs.ToldEvaluations.{ComesTo, ops_told, replies_told}
use Rattle.run_audit.specs.declared.told_report.ToldRecord.{ToldRecord}

some_same : {X : Type 0} (x y : X) → Some x ≡ Some y → x ≡ y
some_same x y is = cc

-- what a line tells of a judgement
printed_judgement : Judgement → Judgement
printed_judgement judgement = record judgement { rule = printed_rule judgement.rule }

judgement_in-printed : (entry : DocketEntry) → judgement_in (printed entry) ≡ option_map printed_judgement (judgement_in entry)
unfolding printed_judgement
judgement_in-printed Other = refl
judgement_in-printed (Malformed kind) = refl
judgement_in-printed (Judged verdict rule edition) = refl
judgement_in-printed (Limited verdict rule states edition) = refl
judgement_in-printed (Full verdict rule states edition) = refl

-- a line has the edition of its judgement
pub same_edition : (line entry : DocketEntry) (told judgement : Judgement) → line ≡ printed entry → judgement_in line ≡ Some told → judgement_in entry ≡ Some judgement → judgement.edition ≡ told.edition
unfolding printed_judgement
same_edition line entry told judgement same is judged =
    let both : Some (printed_judgement judgement) ≡ Some told =
    ap (option_map printed_judgement) (sym judged) ∙ sym (judgement_in-printed entry) ∙ ap judgement_in (sym same) ∙ is in
    ap (λ (j : Judgement). j.edition) (some_same (printed_judgement judgement) told both)

-- an entry of a judgement is that of this judgement
pub judged_again : (entry : DocketEntry) (judgement : Judgement) → judgement_in entry ≡ Some judgement → judged_entry judgement ≡ entry
judged_again Other judgement is = absurd (cc)
judged_again (Malformed kind) judgement is = absurd (cc)
judged_again (Judged verdict rule edition) judgement is = ap judged_entry (sym (some_same _ judgement is))
judged_again (Limited verdict rule states edition) judgement is = ap judged_entry (sym (some_same _ judgement is))
judged_again (Full verdict rule states edition) judgement is = ap judged_entry (sym (some_same _ judgement is))

ops_asked : (asks : List LaneAsk) → ops_told (map asked_of asks) ≡ ops_of asks
ops_asked [] = refl
ops_asked (ask ∷ asks) = ap (λ (ops : List Op). ask.op ∷ ops) (ops_asked asks)

replies_asked : (asks : List LaneAsk) → replies_told (map asked_of asks) ≡ replies_of asks
replies_asked [] = refl
replies_asked (ask ∷ asks) = ap (λ (replies : List Reply). ask.reply ∷ replies) (replies_asked asks)

module _ (edition : Published) (packet : AnyIp) (port : Port) (second : ℕ) (asks : List LaneAsk) (asked : List (Op × Reply)) (same : asked ≡ map asked_of asks) where
  told_replies : replies_told asked ≡ replies_of asks
  told_replies = ap replies_told same ∙ replies_asked asks

  told_ops : ops_told asked ≡ ops_of asks
  told_ops = ap ops_told same ∙ ops_asked asks

  -- what is told of the asks of a record is its evaluation
  pub evaluation_told : (judgement : Judgement) → ComesTo (question_under edition packet port second) asked judgement → IsEvaluation edition packet port second asks judgement
  evaluation_told judgement comes = record {
    outcome = subst (λ (replies : List Reply). (evaluate (question_under edition packet port second) replies).outcome ≡ Whole judgement) told_replies comes.outcome;
    asked = subst (λ (replies : List Reply). (evaluate (question_under edition packet port second) replies).asks ≡ ops_of asks) told_replies (comes.asked ∙ told_ops);
  }

  pub told_evaluation : (judgement : Judgement) → IsEvaluation edition packet port second asks judgement → ComesTo (question_under edition packet port second) asked judgement
  told_evaluation judgement is = record {
    outcome = subst (λ (replies : List Reply). (evaluate (question_under edition packet port second) replies).outcome ≡ Whole judgement) (sym told_replies) is.outcome;
    asked = subst (λ (replies : List Reply). (evaluate (question_under edition packet port second) replies).asks ≡ ops_told asked) (sym told_replies) (is.asked ∙ sym told_ops);
  }

  -- the tally counts the hits of this evaluation too
  pub tallied_told : (editions : List Published) (at : ℕ) (all : List LaneAsk) (judgement : Judgement) (old new : List Count) (hits : List Hit)
      → asks ≡ asks_of_record at all → edition_numbered editions judgement.edition ≡ Some edition
      → RisesBy (total_of packet) (evaluate (question_under edition packet port second) (replies_told asked)).hits old new
      → IsTallyOf hits old → IsTallyOf (hits ++ record_hits editions all at (Packet packet port second) (judged_entry judgement)) new
  tallied_told editions at all judgement old new hits own found rises tallied =
      let counters : List ℕ = (evaluate (question_under edition packet port second) (replies_told asked)).hits in
      let judging : judging_edition editions (judged_entry judgement) ≡ Some edition =
      ap (λ (o : Option Judgement). option_and_then (λ (one : Judgement). edition_numbered editions one.edition) o) (judgement_in-judged judgement) ∙ found in
      let hit : record_hits editions all at (Packet packet port second) (judged_entry judgement) ≡ hits_under (total_of packet) counters =
      ap (λ (o : Option Published). packet_hits o packet port second (asks_of_record at all)) judging
      ∙ ap (λ (own_asks : List LaneAsk). hits_under (total_of packet) (evaluate (question_under edition packet port second) (replies_of own_asks)).hits) (sym own)
      ∙ ap (λ (replies : List Reply). hits_under (total_of packet) (evaluate (question_under edition packet port second) replies).hits) (sym told_replies) in
      subst (λ (more : List Hit). IsTallyOf (hits ++ more) new) (sym hit)
      (λ (id : ℕ). rises id ∙ ap (raised_by (total_of packet) counters id) (tallied id) ∙ sym (count_in-hits (total_of packet) counters hits id))

module _ (told : ToldValue) (lane at : ℕ) (packet : AnyIp) (port : Port) (second : ℕ) where
  -- a packet's record is as its line tells it
  pub packet_told : (one : ToldRecord) (edition : Published) (asked : List (Op × Reply)) (judgement line : Judgement) → line_naming told lane at ≡ Some one
      → judgement_in one.told.entry ≡ Some line → edition_numbered told.editions line.edition ≡ Some edition → asked ≡ map asked_of (asks_of_record at (asks_told told lane))
      → AreTimely (asks_told told lane) at line.edition → ComesTo (question_under edition packet port second) asked judgement → one.told.entry ≡ printed (judged_entry judgement)
      → IsToldSo told lane at (Packet packet port second) (judged_entry judgement)
  packet_told one edition asked judgement line named judged numbered own timely comes printed_so =
      let same : judgement.edition ≡ line.edition = same_edition one.told.entry (judged_entry judgement) line judgement printed_so judged (judgement_in-judged judgement) in
      let found : edition_numbered told.editions judgement.edition ≡ Some edition = ap (edition_numbered told.editions) same ∙ numbered in
      record {
        named = subst (λ (o : Option ToldRecord). IsSomeAnd o (λ (line_is : ToldRecord). line_is.told.entry ≡ printed (judged_entry judgement))) (sym named) printed_so;
        entered = subst (λ (o : Option Judgement). IsSome o) (sym (judgement_in-judged judgement)) refl;
        evaluated = subst (λ (o : Option Judgement). IfSome o (IsEvaluatedTo told.editions packet port second (asks_of_record at (asks_told told lane)))) (sym (judgement_in-judged judgement))
            (subst (λ (o : Option Published). IsSomeAnd o (λ (under : Published). IsEvaluation under packet port second (asks_of_record at (asks_told told lane)) judgement)) (sym found)
            (evaluation_told edition packet port second (asks_of_record at (asks_told told lane)) asked own judgement comes));
        timely = subst (λ (o : Option Judgement). IfSome o (λ (j : Judgement). AreTimely (asks_told told lane) at j.edition)) (sym (judgement_in-judged judgement))
            (subst (λ (n : ℕ). AreTimely (asks_told told lane) at n) (sym same) timely);
      }

  -- What follows for an entry that is told so: its line's judgement, edition, asks and evaluation.
  pub record IsJudgedSo (entry : DocketEntry) (one : ToldRecord) : Type 0 where
    pub judgement : Judgement
    pub judged : judgement_in entry ≡ Some judgement
    pub printed_so : one.told.entry ≡ printed entry
    pub edition : Published
    pub found : edition_numbered told.editions judgement.edition ≡ Some edition
    pub evaluation : IsEvaluation edition packet port second (asks_of_record at (asks_told told lane)) judgement
    pub timely : AreTimely (asks_told told lane) at judgement.edition

  some_of : {X : Type 0} (o : Option X) → IsSome o → (x : X) × (o ≡ Some x)
  some_of None is = absurd (cc)
  some_of (Some x) is = (x, refl)

  some_and : {X : Type 0} (P : X → Type 0) (o : Option X) → IsSomeAnd o P → (x : X) × (o ≡ Some x) × P x
  some_and P None is = absurd is
  some_and P (Some x) is = (x, refl, is)

  -- how a record was judged that is told so
  pub judged_so : (entry : DocketEntry) (one : ToldRecord) → line_naming told lane at ≡ Some one → IsToldSo told lane at (Packet packet port second) entry → IsJudgedSo entry one
  judged_so entry one named is =
      let (judgement, judged) = some_of (judgement_in entry) is.entered in
      let evaluated = subst (λ (o : Option Judgement). IfSome o (IsEvaluatedTo told.editions packet port second (asks_of_record at (asks_told told lane)))) judged is.evaluated in
      let (edition, found, evaluation) = some_and (λ (under : Published). IsEvaluation under packet port second (asks_of_record at (asks_told told lane)) judgement) (edition_numbered told.editions judgement.edition) evaluated in
      record {
        judgement = judgement;
        judged = judged;
        printed_so = subst (λ (o : Option ToldRecord). IsSomeAnd o (λ (line_is : ToldRecord). line_is.told.entry ≡ printed entry)) named is.named;
        edition = edition;
        found = found;
        evaluation = evaluation;
        timely = subst (λ (o : Option Judgement). IfSome o (λ (j : Judgement). AreTimely (asks_told told lane) at j.edition)) judged is.timely;
      }

  -- no line names it
  pub not_named : (entry : DocketEntry) → line_naming told lane at ≡ None → IsToldSo told lane at (Packet packet port second) entry → ⊥
  not_named entry none is = subst (λ (o : Option ToldRecord). IsSomeAnd o (λ (line_is : ToldRecord). line_is.told.entry ≡ printed entry)) none is.named

  module _ (entry : DocketEntry) (one : ToldRecord) (named : line_naming told lane at ≡ Some one) (is : IsToldSo told lane at (Packet packet port second) entry) where
    so : IsJudgedSo entry one
    so = judged_so entry one named is

    -- its line tells a judgement
    pub not_unjudged : judgement_in one.told.entry ≡ None → ⊥
    unfolding so
    not_unjudged none =
        let line : judgement_in one.told.entry ≡ option_map printed_judgement (Some so.judgement) =
        ap judgement_in so.printed_so ∙ judgement_in-printed entry ∙ ap (option_map printed_judgement) so.judged in
        absurd (cc)

    module _ (line : Judgement) (judged : judgement_in one.told.entry ≡ Some line) where
      line_edition : so.judgement.edition ≡ line.edition
      unfolding so
      line_edition = same_edition one.told.entry entry line so.judgement so.printed_so judged so.judged

      -- of an edition that there is
      pub not_missing : edition_numbered told.editions line.edition ≡ None → ⊥
      not_missing none =
          let e : Some so.edition ≡ None = sym so.found ∙ ap (edition_numbered told.editions) line_edition ∙ none in
          absurd (cc)

      -- with timely asks
      pub not_late : (AreTimely (asks_told told lane) at line.edition → ⊥) → ⊥
      not_late late = late (subst (λ (n : ℕ). AreTimely (asks_told told lane) at n) line_edition so.timely)

      module _ (edition : Published) (found : edition_numbered told.editions line.edition ≡ Some edition) (asked : List (Op × Reply)) (own : asked ≡ map asked_of (asks_of_record at (asks_told told lane))) where
        same_under : so.edition ≡ edition
        same_under = some_same so.edition edition (sym so.found ∙ ap (edition_numbered told.editions) line_edition ∙ found)

        comes_so : ComesTo (question_under edition packet port second) asked so.judgement
        comes_so =
            told_evaluation edition packet port second (asks_of_record at (asks_told told lane)) asked own so.judgement
            (subst (λ (under : Published). IsEvaluation under packet port second (asks_of_record at (asks_told told lane)) so.judgement) same_under so.evaluation)

        -- its evaluation comes to a judgement
        pub not_open : ((judgement : Judgement) → ComesTo (question_under edition packet port second) asked judgement → ⊥) → ⊥
        not_open none = none so.judgement comes_so

        -- of which the line tells
        pub not_other : (judgement : Judgement) → ComesTo (question_under edition packet port second) asked judgement → (one.told.entry ≡ printed (judged_entry judgement) → ⊥) → ⊥
        not_other judgement comes other =
            let same : Whole so.judgement ≡ Whole judgement = sym comes_so.outcome ∙ comes.outcome in
            let one_judgement : so.judgement ≡ judgement = whole_same so.judgement judgement same in
            other (so.printed_so ∙ ap printed (sym (judged_again entry so.judgement so.judged) ∙ ap judged_entry one_judgement))
          where
            whole_same : (first second_one : Judgement) → Whole first ≡ Whole second_one → first ≡ second_one
            whole_same first second_one e = cc

-- ---- what a call gives

-- what holds of a value that is there
pub if_some : {X : Type 0} (P : X → Type 0) (o : Option X) (x : X) → o ≡ Some x → IfSome o P → P x
if_some P None x is so = absurd (cc)
if_some P (Some y) x is so = subst P (some_same y x is) so

-- what holds where a value is there
pub on_some : {X : Type 0} (P : Type 0) (o : Option X) (x : X) → o ≡ Some x → OnSome o P → P
on_some P None x is so = absurd (cc)
on_some P (Some y) x is so = so

-- the same, of another fact
pub on_some_map : {X : Type 0} (P Q : Type 0) (o : Option X) → (P → Q) → OnSome o P → OnSome o Q
on_some_map P Q None goes _ = tt
on_some_map P Q (Some x) goes holds = goes holds

-- a tally that was fitted counts the hits of the evaluation
pub rises_fitted : (q : Question) (replies : List Reply) (old fitted new : List Count) → IsConfiguration q.edition.config → q.edition.config.greatest_counter < length fitted
    → ((id : ℕ) → counted_under fitted id ≡ counted_under old id) → new ≡ counts_after (total_of q.packet) (evaluate q replies).hits fitted
    → RisesBy (total_of q.packet) (evaluate q replies).hits old new
rises_fitted q replies old fitted new lawful within same is = λ (id : ℕ).
    let below = All-weaker (λ (k : ℕ). k ≤ q.edition.config.greatest_counter) (λ (k : ℕ). k < length fitted) (λ k less. omega arith) (evaluate q replies).hits (hits_are_given_out q replies lawful) in
    ap (λ (t : List Count). counted_under t id) is
    ∙ RisesBy-after (total_of q.packet) (evaluate q replies).hits fitted below id
    ∙ ap (raised_by (total_of q.packet) (evaluate q replies).hits id) (same id)
