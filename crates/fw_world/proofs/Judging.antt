-- A lane that stands for its inputs stands for one input more after it judged or skipped a record.
use Rattle.std.proofs.Common.{◌≡◌, ℕ, ◌+◌, ◌-◌, ◌%◌, ◌^◌, ◌<◌, ◌≤◌, Bool, true, false, List, [], ◌∷◌, ◌++◌, length, refl, sym, ap, ◌∙◌, subst, cond, arith, append_assoc}
use Rattle.std.proofs.lemmas.List.{append-nil}
use Rattle.std.proofs.lemmas.List.Sums.{sum_by_push}
use Rattle.std.specs.Prelude.{◌==◌, Option, Some, is_some, IfSome, IsSomeAnd, option_and_then, slice_get, sum_by, count_by}
use Rattle.fw_base.specs.declared.port.Port.{Port}
use Rattle.fw_base.proofs.Lists.{all_weaker}
use Rattle.ip6_headers.specs.Either.{total_of}
use Rattle.ip6_headers.specs.declared.any_ip.AnyIp.{AnyIp}
use Rattle.counter_book.specs.Counts.{count_after_packet}
use Rattle.counter_book.specs.declared.tally.Count.{Count}
use Rattle.state_asks.specs.declared.op.Op.{Op}
use Rattle.state_asks.specs.declared.reply.Reply.{Reply}
use Rattle.generation_store.specs.Published.{Published}
use Rattle.eval_engine.proofs.Dockets.{judgement_in-judged}
use Rattle.eval_engine.specs.Dockets.{DocketValue, judged_entry, judgement_in}
use Rattle.eval_engine.specs.Evaluated.{Whole}
use Rattle.eval_engine.specs.Evaluation.{evaluate}
use Rattle.eval_engine.specs.Question.{question_under}
use Rattle.eval_engine.specs.declared.docket_entry.DocketEntry.{DocketEntry}
use Rattle.eval_engine.specs.declared.judgement.Judgement.{Judgement}
use Rattle.fw_world.specs.AskRuns.{RisesBy, raised_by}
use Rattle.fw_world.specs.Asks.{LaneAsk, asks_of_record, replies_of, ops_of, AreAsksOf, IsJudgedUnder, record_asks}
use Rattle.fw_world.specs.Editions.{edition_numbered, judging_edition}
use Rattle.fw_world.specs.Entries.{EachRecord, IsEntryFor, IsEvaluated, IsEvaluatedTo, IsEvaluation}
use Rattle.fw_world.specs.Inputs.{Input, Other, Malformed, Packet}
use Rattle.fw_world.specs.Standing.{StandFor}
use Rattle.fw_world.specs.Tallies.{Hit, hits_under, packet_hits, record_hits, lane_hits, count_in, IsTallyOf}
use Rattle.fw_world.proofs.AskLists.{ops-record_asks, replies-record_asks}
use Rattle.fw_world.proofs.Records.{EachRecord-append, EachRecord-weaker, IsEvaluated-asks, asks_of_record-earlier, asks_of_record-next, asks_are_within, AreAsksOf-record, AreAsksOf-entries, slice_get-last}

-- the hits of one record more
lane_hits-append : (editions : List Published) (asks : List LaneAsk) (at : ℕ) (inputs : List Input) (entries : List DocketEntry) (input : Input) (entered : DocketEntry) → EachRecord IsEntryFor at inputs entries
    → lane_hits editions asks at (inputs ++ input ∷ []) (entries ++ entered ∷ []) ≡ lane_hits editions asks at inputs entries ++ record_hits editions asks (at + length entries) input entered
lane_hits-append editions asks at [] [] input entered each =
    let same : at ≡ at + 0 = omega arith in append-nil _ ∙ ap (λ (n : ℕ). record_hits editions asks n input entered) same
lane_hits-append editions asks at [] (first ∷ entries) input entered each = absurd each
lane_hits-append editions asks at (met ∷ inputs) [] input entered each = absurd each
lane_hits-append editions asks at (met ∷ inputs) (first ∷ entries) input entered each =
    let same : at + 1 + length entries ≡ at + length (first ∷ entries) = omega arith in
    ap (λ (rest : List Hit). record_hits editions asks at met first ++ rest)
    (lane_hits-append editions asks (at + 1) inputs entries input entered each.1 ∙ ap (λ (n : ℕ). lane_hits editions asks (at + 1) inputs entries ++ record_hits editions asks n input entered) same)
    ∙ sym (append_assoc (record_hits editions asks at met first) _ _)

-- a record's hits depend on its own asks alone
record_hits-asks : (editions : List Published) (asks more : List LaneAsk) (at : ℕ) (input : Input) (entered : DocketEntry)
    → asks_of_record at more ≡ asks_of_record at asks → record_hits editions more at input entered ≡ record_hits editions asks at input entered
record_hits-asks editions asks more at Other entered same = refl
record_hits-asks editions asks more at (Malformed kind) entered same = refl
record_hits-asks editions asks more at (Packet packet port second) entered same =
    ap (λ (own : List LaneAsk). packet_hits (judging_edition editions entered) packet port second own) same

lane_hits-asks : (editions : List Published) (asks more : List LaneAsk) (at : ℕ) (inputs : List Input) (entries : List DocketEntry)
    → ((n : ℕ) → n < at + length entries → asks_of_record n more ≡ asks_of_record n asks) → lane_hits editions more at inputs entries ≡ lane_hits editions asks at inputs entries
lane_hits-asks editions asks more at [] entries same = refl
lane_hits-asks editions asks more at (met ∷ inputs) [] same = refl
lane_hits-asks editions asks more at (met ∷ inputs) (first ∷ entries) same =
    let one = record_hits-asks editions asks more at met first (same at (omega arith)) in
    let rest = lane_hits-asks editions asks more (at + 1) inputs entries (λ (n : ℕ) (below : n < at + 1 + length entries). same n (omega arith)) in
    ap (λ (hits : List Hit). hits ++ lane_hits editions more (at + 1) inputs entries) one ∙ ap (λ (hits : List Hit). record_hits editions asks at met first ++ hits) rest

-- a sum modulo 2^64, one more
sum_mod : (a b : ℕ) → (a + b) % 2 ^ 64 ≡ (a % 2 ^ 64 + b) % 2 ^ 64
sum_mod a b = omega arith

same_count : (a b c d : ℕ) → a ≡ b → c ≡ d → ◌≡◌ {A = Count} (record { packets = a; bytes = c }) (record { packets = b; bytes = d })
same_count a b c d first second = ap (λ (n : ℕ). let one : Count = record { packets = n; bytes = c } in one) first ∙ ap (λ (n : ℕ). let one : Count = record { packets = b; bytes = n } in one) second

-- the counts of one hit more
count_in-hit : (hits : List Hit) (hit : Hit) (id : ℕ) → count_in (hits ++ hit ∷ []) id ≡ cond (hit.counter == id) (count_after_packet (count_in hits id) hit.bytes) (count_in hits id)
count_in-hit hits hit id = decided (hit.counter == id) refl
  where
    packets : (b : Bool) → b ≡ (hit.counter == id) → count_by (λ h. h.counter == id) (hits ++ hit ∷ []) ≡ count_by (λ h. h.counter == id) hits + cond b 1 0
    packets b is = sum_by_push (λ (h : Hit). cond (h.counter == id) 1 0) hits hit ∙ ap (λ (c : Bool). count_by (λ h. h.counter == id) hits + cond c 1 0) (sym is)

    bytes : (b : Bool) → b ≡ (hit.counter == id) → sum_by (λ h. cond (h.counter == id) h.bytes 0) (hits ++ hit ∷ []) ≡ sum_by (λ h. cond (h.counter == id) h.bytes 0) hits + cond b hit.bytes 0
    bytes b is = sum_by_push (λ (h : Hit). cond (h.counter == id) h.bytes 0) hits hit ∙ ap (λ (c : Bool). sum_by (λ h. cond (h.counter == id) h.bytes 0) hits + cond c hit.bytes 0) (sym is)

    decided : (b : Bool) → b ≡ (hit.counter == id) → count_in (hits ++ hit ∷ []) id ≡ cond b (count_after_packet (count_in hits id) hit.bytes) (count_in hits id)
    decided true is = same_count _ _ _ _ (ap (λ (n : ℕ). n % 2 ^ 64) (packets true is) ∙ sum_mod _ 1) (ap (λ (n : ℕ). n % 2 ^ 64) (bytes true is) ∙ sum_mod _ hit.bytes)
    decided false is = same_count _ _ _ _ (let e : count_by (λ h. h.counter == id) hits + 0 ≡ count_by (λ h. h.counter == id) hits = omega arith in ap (λ (n : ℕ). n % 2 ^ 64) (packets false is ∙ e))
        (let e : sum_by (λ h. cond (h.counter == id) h.bytes 0) hits + 0 ≡ sum_by (λ h. cond (h.counter == id) h.bytes 0) hits = omega arith in ap (λ (n : ℕ). n % 2 ^ 64) (bytes false is ∙ e))

-- the counts of a packet's hits more
pub count_in-hits : (bytes : ℕ) (counters : List ℕ) (hits : List Hit) (id : ℕ) → count_in (hits ++ hits_under bytes counters) id ≡ raised_by bytes counters id (count_in hits id)
count_in-hits bytes [] hits id = ap (λ (all : List Hit). count_in all id) (append-nil hits)
count_in-hits bytes (counter ∷ counters) hits id =
    let hit : Hit = record { counter = counter; bytes = bytes } in
    ap (λ (all : List Hit). count_in all id) (sym (append_assoc hits (hit ∷ []) (hits_under bytes counters)))
    ∙ count_in-hits bytes counters (hits ++ hit ∷ []) id
    ∙ ap (raised_by bytes counters id) (count_in-hit hits hit id)

-- a lane stands for its inputs by its docket's entries alone
pub StandFor-entries : (editions : List Published) (asks : List LaneAsk) (docket other : DocketValue) (tally : List Count) (inputs : List Input)
    → other.entries ≡ docket.entries → StandFor editions asks docket tally inputs → StandFor editions asks other tally inputs
StandFor-entries editions asks docket other tally inputs same stands = record {
  entered = subst (λ (all : List DocketEntry). EachRecord IsEntryFor 1 inputs all) (sym same) stands.entered;
  evaluated = subst (λ (all : List DocketEntry). EachRecord (IsEvaluated editions asks) 1 inputs all) (sym same) stands.evaluated;
  tallied = subst (λ (all : List DocketEntry). IsTallyOf (lane_hits editions asks 1 inputs all) tally) (sym same) stands.tallied;
  asked = subst (λ (all : List DocketEntry). AreAsksOf all asks) (sym same) stands.asked;
}

module _ (editions : List Published) (asks : List LaneAsk) (docket : DocketValue) (tally : List Count) (inputs : List Input) (stands : StandFor editions asks docket tally inputs) where
  -- a record that isn't judged
  pub StandFor-skipped : (input : Input) (entered : DocketEntry) → IsEntryFor (1 + length docket.entries) input entered → IsEvaluated editions asks (1 + length docket.entries) input entered
      → record_hits editions asks (1 + length docket.entries) input entered ≡ [] → (more : DocketValue) → more.entries ≡ docket.entries ++ entered ∷ [] → StandFor editions asks more tally (inputs ++ input ∷ [])
  StandFor-skipped input entered fits done none more is = StandFor-entries editions asks (record docket { entries = docket.entries ++ entered ∷ [] }) more tally (inputs ++ input ∷ []) is (record {
    entered = EachRecord-append IsEntryFor 1 inputs docket.entries input entered stands.entered fits;
    evaluated = EachRecord-append (IsEvaluated editions asks) 1 inputs docket.entries input entered stands.evaluated done;
    tallied = subst (λ (hits : List Hit). IsTallyOf hits tally)
        (sym (lane_hits-append editions asks 1 inputs docket.entries input entered stands.entered ∙ ap (λ (hits : List Hit). lane_hits editions asks 1 inputs docket.entries ++ hits) none ∙ append-nil _)) stands.tallied;
    asked = AreAsksOf-entries docket.entries entered asks stands.asked;
  })

  -- a packet that was judged under the last edition
  pub StandFor-judged : (edition : Published) (packet : AnyIp) (port : Port) (second : ℕ) (ops : List Op) (replies : List Reply) (judgement : Judgement) (after : List Count)
      → edition_numbered editions judgement.edition ≡ Some edition → length ops ≡ length replies
      → (evaluate (question_under edition packet port second) replies).outcome ≡ Whole judgement → (evaluate (question_under edition packet port second) replies).asks ≡ ops
      → RisesBy (total_of packet) (evaluate (question_under edition packet port second) replies).hits tally after
      → (more : DocketValue) → more.entries ≡ docket.entries ++ judged_entry judgement ∷ []
      → StandFor editions (asks ++ record_asks judgement.edition (length docket.entries + 1) ops replies) more after (inputs ++ Packet packet port second ∷ [])
  StandFor-judged edition packet port second ops replies judgement after found same outcome asked rises more is =
      let n : ℕ = length docket.entries in
      let own : List LaneAsk = record_asks judgement.edition (n + 1) ops replies in
      let all : List LaneAsk = asks ++ own in
      let input : Input = Packet packet port second in
      let entered : DocketEntry = judged_entry judgement in
      let judged : judgement_in entered ≡ Some judgement = judgement_in-judged judgement in
      let named : judging_edition editions entered ≡ Some edition = ap (λ (j : Option Judgement). option_and_then (λ (one : Judgement). edition_numbered editions one.edition) j) judged ∙ found in
      let within = asks_are_within docket.entries asks stands.asked in
      let earlier = (λ (k : ℕ) (below : k < 1 + n). asks_of_record-earlier k judgement.edition (n + 1) asks ops replies (λ (e : k ≡ n + 1). omega arith)) in
      let next : asks_of_record (1 + n) all ≡ own = subst (λ (k : ℕ). asks_of_record k all ≡ own) (omega arith) (asks_of_record-next n judgement.edition (n + 1) asks ops replies within (omega arith)) in
      let told : replies_of (asks_of_record (1 + n) all) ≡ replies = ap replies_of next ∙ replies-record_asks judgement.edition (n + 1) ops replies same in
      let evaluation : IsEvaluation edition packet port second (asks_of_record (1 + n) all) judgement = record {
        outcome = ap (λ (r : List Reply). (evaluate (question_under edition packet port second) r).outcome) told ∙ outcome;
        asked = ap (λ (r : List Reply). (evaluate (question_under edition packet port second) r).asks) told ∙ asked ∙ sym (ap ops_of next ∙ ops-record_asks judgement.edition (n + 1) ops replies same);
      } in
      let hits : record_hits editions all (1 + n) input entered ≡ hits_under (total_of packet) (evaluate (question_under edition packet port second) replies).hits =
      ap (λ (o : Option Published). packet_hits o packet port second (asks_of_record (1 + n) all)) named ∙ ap (λ (r : List Reply). hits_under (total_of packet) (evaluate (question_under edition packet port second) r).hits) told in
      let all_hits = lane_hits-append editions all 1 inputs docket.entries input entered stands.entered
      ∙ ap (λ (h : List Hit). h ++ record_hits editions all (1 + n) input entered) (lane_hits-asks editions asks all 1 inputs docket.entries earlier)
      ∙ ap (λ (h : List Hit). lane_hits editions asks 1 inputs docket.entries ++ h) hits in
      StandFor-entries editions all (record docket { entries = docket.entries ++ entered ∷ [] }) more after (inputs ++ input ∷ []) is (record {
        entered = EachRecord-append IsEntryFor 1 inputs docket.entries input entered stands.entered (ap (λ (j : Option Judgement). is_some j) judged);
        evaluated = EachRecord-append (IsEvaluated editions all) 1 inputs docket.entries input entered
            (EachRecord-weaker (IsEvaluated editions asks) (IsEvaluated editions all) 1 inputs docket.entries (λ k i e below. IsEvaluated-asks editions asks all k i e (earlier k below)) stands.evaluated)
            (subst (λ (j : Option Judgement). IfSome j (IsEvaluatedTo editions packet port second (asks_of_record (1 + n) all))) (sym judged)
            (subst (λ (o : Option Published). IsSomeAnd o (λ edition. IsEvaluation edition packet port second (asks_of_record (1 + n) all) judgement)) (sym found) evaluation));
        tallied = subst (λ (h : List Hit). IsTallyOf h after) (sym all_hits)
            (λ id. rises id ∙ ap (raised_by (total_of packet) (evaluate (question_under edition packet port second) replies).hits id) (stands.tallied id) ∙ sym (count_in-hits (total_of packet) _ (lane_hits editions asks 1 inputs docket.entries) id));
        asked =
            let entered_at : IsSomeAnd (slice_get (docket.entries ++ entered ∷ []) (n + 1 - 1)) (IsJudgedUnder judgement.edition) =
            let same_place : n ≡ n + 1 - 1 = omega arith in
            subst (λ (k : ℕ). IsSomeAnd (slice_get (docket.entries ++ entered ∷ []) k) (IsJudgedUnder judgement.edition)) same_place
            (subst (λ (o : Option DocketEntry). IsSomeAnd o (IsJudgedUnder judgement.edition)) (sym (slice_get-last docket.entries entered))
            (subst (λ (j : Option Judgement). IsSomeAnd j (λ (one : Judgement). one.edition ≡ judgement.edition)) (sym judged) refl)) in
            AreAsksOf-record (docket.entries ++ entered ∷ []) asks judgement.edition (n + 1) ops replies (AreAsksOf-entries docket.entries entered asks stands.asked)
            (all_weaker (λ (one : LaneAsk). one.at ≤ n) (λ (one : LaneAsk). one.at ≤ n + 1) (λ one below. omega arith) asks within) (omega arith) entered_at;
      })

-- what has entered, counted and asked nothing stands for no input
pub StandFor-none : (editions : List Published) → StandFor editions [] (record { entries = []; refused = 0 }) [] []
StandFor-none editions = record {
  entered = tt;
  evaluated = tt;
  tallied = λ id. refl;
  asked = record { ordered = λ i j d order within. absurd (omega arith); numbered = tt; entered = tt };
}
