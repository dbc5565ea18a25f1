-- The counters of a legal record add up to the hits of its judged packets.
use Rattle.std.proofs.Common.{◌≡◌, ℕ, ◌+◌, ◌*◌, ◌%◌, ◌^◌, Bool, true, false, cond, List, [], ◌∷◌, ◌++◌, map, refl, sym, ap, ◌∙◌, arith}
use Rattle.std.proofs.lemmas.List.{map-append}
use Rattle.std.proofs.lemmas.List.Sums.{sum_by-cons, sum_by-append}
use Rattle.std.specs.Prelude.{◌==◌, Option, Some, None, IsSome, IfSome, IsSomeAnd, option_and_then, sum_by, count_by}
use Rattle.std.specs.List.{cons_option}
use Rattle.fw_base.specs.declared.port.Port.{Port}
use Rattle.ip6_headers.specs.Either.{total_of}
use Rattle.ip6_headers.specs.declared.any_ip.AnyIp.{AnyIp}
use Rattle.counter_book.specs.Counts.{counted_under}
use Rattle.counter_book.specs.declared.tally.Count.{Count}
use Rattle.generation_store.specs.Published.{Published}
use Rattle.eval_engine.specs.Dockets.{DocketValue, judgement_in, judgements}
use Rattle.eval_engine.specs.Evaluated.{Outcome, Whole}
use Rattle.eval_engine.specs.declared.docket_entry.DocketEntry.{DocketEntry}
use Rattle.eval_engine.specs.declared.judgement.Judgement.{Judgement}
use Rattle.fw_world.specs.Asks.{LaneAsk, asks_of_record, replies_of, lane_asks}
use Rattle.fw_world.specs.Editions.{edition_numbered, judging_edition}
use Rattle.fw_world.specs.Entries.{EachRecord, IsEntryFor, IsEvaluated, IsEvaluatedTo, IsEvaluation, evaluation_under}
use Rattle.fw_world.specs.Inputs.{Input, Other, Malformed, Packet}
use Rattle.fw_world.specs.Lanes.{EachLane, LaneStands}
use Rattle.fw_world.specs.RecordValue.{RecordValue}
use Rattle.fw_world.specs.Tallies.{Hit, hits_under, packet_hits, record_hits, lane_hits, count_in}
use Rattle.record_laws.specs.Counters.{CountersAddUp}
use Rattle.record_laws.specs.JudgedPackets.{JudgedPacket, evaluation_of, hits_on, bytes_on, judged_under, judged_record, judged_records, judged_lanes, all_judgements}

-- the judged packet of an edition and these asks
abbrev packet_of : Published → AnyIp → Port → ℕ → List LaneAsk → JudgedPacket
packet_of edition packet port second asks = record { edition = edition; packet = packet; port = port; second = second; replies = replies_of asks }

-- A part of the counts, packets or bytes: what a hit and what a judged packet adds to it.
record Adds (id : ℕ) (part : Count → ℕ) (of_hit : Hit → ℕ) (of_packet : JudgedPacket → ℕ) : Type 0 where
  counted : (hits : List Hit) → part (count_in hits id) ≡ sum_by of_hit hits % 2 ^ 64
  same : (edition : Published) (packet : AnyIp) (port : Port) (second : ℕ) (asks : List LaneAsk)
      → sum_by of_hit (hits_under (total_of packet) (evaluation_under edition packet port second asks).hits) ≡ of_packet (packet_of edition packet port second asks)

-- a number modulo 2^64 beside a sum
sum_mod : (a x rest total : ℕ) → a ≡ x % 2 ^ 64 → rest % 2 ^ 64 ≡ total % 2 ^ 64 → (a + rest) % 2 ^ 64 ≡ (x + total) % 2 ^ 64
sum_mod a x rest total one others = omega arith

module _ (id : ℕ) (part : Count → ℕ) (of_hit : Hit → ℕ) (of_packet : JudgedPacket → ℕ) (adds : Adds id part of_hit of_packet) where
  under : (edition : Option Published) (packet : AnyIp) (port : Port) (second : ℕ) (asks : List LaneAsk)
      → sum_by of_hit (packet_hits edition packet port second asks) ≡ sum_by of_packet (judged_under edition packet port second asks)
  under None packet port second asks = refl
  under (Some edition) packet port second asks =
      let alone : of_packet (packet_of edition packet port second asks) ≡ 0 + of_packet (packet_of edition packet port second asks) = omega arith in
      adds.same edition packet port second asks ∙ alone

  of_record : (editions : List Published) (asks : List LaneAsk) (at : ℕ) (input : Input) (entered : DocketEntry)
      → sum_by of_hit (record_hits editions asks at input entered) ≡ sum_by of_packet (judged_record editions asks at input entered)
  of_record editions asks at Other entered = refl
  of_record editions asks at (Malformed kind) entered = refl
  of_record editions asks at (Packet packet port second) entered = under (judging_edition editions entered) packet port second (asks_of_record at asks)

  of_records : (editions : List Published) (asks : List LaneAsk) (at : ℕ) (inputs : List Input) (entries : List DocketEntry)
      → sum_by of_hit (lane_hits editions asks at inputs entries) ≡ sum_by of_packet (judged_records editions asks at inputs entries)
  of_records editions asks at [] entries = refl
  of_records editions asks at (input ∷ inputs) [] = refl
  of_records editions asks at (input ∷ inputs) (entered ∷ entries) =
      let one = of_record editions asks at input entered in
      let rest = of_records editions asks (at + 1) inputs entries in
      sum_by-append of_hit (record_hits editions asks at input entered) (lane_hits editions asks (at + 1) inputs entries)
      ∙ ap (λ n. n + sum_by of_hit (lane_hits editions asks (at + 1) inputs entries)) one
      ∙ ap (λ n. sum_by of_packet (judged_record editions asks at input entered) + n) rest
      ∙ sym (sum_by-append of_packet (judged_record editions asks at input entered) (judged_records editions asks (at + 1) inputs entries))

  of_lanes : (r : RecordValue) (lane : ℕ) (inputs : List (List Input)) (dockets : List DocketValue) (tallies : List (List Count)) (trackers : List ℕ)
      → EachLane (LaneStands r) lane inputs dockets tallies trackers
      → sum_by (λ counts. part (counted_under counts id)) tallies % 2 ^ 64 ≡ sum_by of_packet (judged_lanes r lane inputs dockets) % 2 ^ 64
  of_lanes r lane [] [] [] [] each = refl
  of_lanes r lane (own ∷ inputs) (docket ∷ dockets) (tally ∷ tallies) (tracker ∷ trackers) each =
      let asks = lane_asks lane r.journal.entries in
      let hits = lane_hits r.editions asks 1 own docket.entries in
      let one = ap part (each.0.tallied id) ∙ adds.counted hits ∙ ap (λ n. n % 2 ^ 64) (of_records r.editions asks 1 own docket.entries) in
      let rest = of_lanes r (lane + 1) inputs dockets tallies trackers each.1 in
      ap (λ n. n % 2 ^ 64) (sum_by-cons (λ counts. part (counted_under counts id)) tally tallies)
      ∙ sum_mod _ _ _ _ one rest
      ∙ ap (λ n. n % 2 ^ 64) (sym (sum_by-append of_packet (judged_records r.editions asks 1 own docket.entries) (judged_lanes r (lane + 1) inputs dockets)))
  of_lanes r lane inputs dockets tallies trackers each = absurd each

-- hits on a counter number, of which each counts these bytes
count_under : (id bytes : ℕ) (counters : List ℕ) → count_by (λ (hit : Hit). hit.counter == id) (hits_under bytes counters) ≡ count_by (λ hit. hit == id) counters
count_under id bytes [] = refl
count_under id bytes (counter ∷ counters) =
    sum_by-cons (λ (hit : Hit). cond (hit.counter == id) 1 0) (record { counter = counter; bytes = bytes }) (hits_under bytes counters)
    ∙ ap (λ n. cond (counter == id) 1 0 + n) (count_under id bytes counters)
    ∙ sym (sum_by-cons (λ hit. cond (hit == id) 1 0) counter counters)

times : (b : Bool) (n bytes : ℕ) → cond b bytes 0 + n * bytes ≡ (cond b 1 0 + n) * bytes
times true n bytes = omega arith
times false n bytes = omega arith

bytes_under : (id bytes : ℕ) (counters : List ℕ) → sum_by (λ (hit : Hit). cond (hit.counter == id) hit.bytes 0) (hits_under bytes counters) ≡ count_by (λ hit. hit == id) counters * bytes
bytes_under id bytes [] = omega arith
bytes_under id bytes (counter ∷ counters) =
    sum_by-cons (λ (hit : Hit). cond (hit.counter == id) hit.bytes 0) (record { counter = counter; bytes = bytes }) (hits_under bytes counters)
    ∙ ap (λ n. cond (counter == id) bytes 0 + n) (bytes_under id bytes counters)
    ∙ times (counter == id) (count_by (λ hit. hit == id) counters) bytes
    ∙ ap (λ n. n * bytes) (sym (sum_by-cons (λ hit. cond (hit == id) 1 0) counter counters))

adds_packets : (id : ℕ) → Adds id (λ count. count.packets) (λ hit. cond (hit.counter == id) 1 0) (hits_on id)
adds_packets id = record {
  counted = λ hits. refl;
  same = λ edition packet port second asks. count_under id (total_of packet) (evaluation_under edition packet port second asks).hits;
}

adds_bytes : (id : ℕ) → Adds id (λ count. count.bytes) (λ hit. cond (hit.counter == id) hit.bytes 0) (bytes_on id)
adds_bytes id = record {
  counted = λ hits. refl;
  same = λ edition packet port second asks. bytes_under id (total_of packet) (evaluation_under edition packet port second asks).hits;
}

-- what a judged packet's evaluation came to
abbrev judged_outcome : JudgedPacket → Outcome
judged_outcome p = (evaluation_of p).outcome

judged_one : (edition : Option Published) (packet : AnyIp) (port : Port) (second : ℕ) (asks : List LaneAsk) (judgement : Judgement)
    → IsSomeAnd edition (λ e. IsEvaluation e packet port second asks judgement) → map judged_outcome (judged_under edition packet port second asks) ≡ Whole judgement ∷ []
judged_one None packet port second asks judgement is = absurd is
judged_one (Some edition) packet port second asks judgement is = ap (λ (o : Outcome). o ∷ []) is.outcome

-- a judged packet before others
judged_first : (editions : List Published) (packet : AnyIp) (port : Port) (second : ℕ) (own : List LaneAsk) (judged : Option Judgement) (others : List JudgedPacket) (rest : List Judgement)
    → IsSome judged → IfSome judged (IsEvaluatedTo editions packet port second own) → map judged_outcome others ≡ map Whole rest
    → map judged_outcome (judged_under (option_and_then (λ (one : Judgement). edition_numbered editions one.edition) judged) packet port second own) ++ map judged_outcome others ≡ map Whole (cons_option judged rest)
judged_first editions packet port second own None others rest some is behind = cc
judged_first editions packet port second own (Some judgement) others rest some is behind =
    ap (λ (first : List Outcome). first ++ map judged_outcome others) (judged_one (edition_numbered editions judgement.edition) packet port second own judgement is)
    ∙ ap (λ (all : List Outcome). Whole judgement ∷ all) behind

judged_all : (editions : List Published) (asks : List LaneAsk) (at : ℕ) (inputs : List Input) (entries : List DocketEntry)
    → EachRecord IsEntryFor at inputs entries → EachRecord (IsEvaluated editions asks) at inputs entries
    → map judged_outcome (judged_records editions asks at inputs entries) ≡ map Whole (judgements entries)
judged_all editions asks at [] [] fits is = refl
judged_all editions asks at [] (entered ∷ entries) fits is = absurd fits
judged_all editions asks at (input ∷ inputs) [] fits is = absurd fits
judged_all editions asks at (Other ∷ inputs) (entered ∷ entries) fits is =
    judged_all editions asks (at + 1) inputs entries fits.1 is.1 ∙ ap (λ (e : DocketEntry). map Whole (cons_option (judgement_in e) (judgements entries))) (sym fits.0)
judged_all editions asks at (Malformed kind ∷ inputs) (entered ∷ entries) fits is =
    judged_all editions asks (at + 1) inputs entries fits.1 is.1 ∙ ap (λ (e : DocketEntry). map Whole (cons_option (judgement_in e) (judgements entries))) (sym fits.0)
judged_all editions asks at (Packet packet port second ∷ inputs) (entered ∷ entries) fits is =
    map-append judged_outcome (judged_record editions asks at (Packet packet port second) entered) (judged_records editions asks (at + 1) inputs entries)
    ∙ judged_first editions packet port second (asks_of_record at asks) (judgement_in entered) _ (judgements entries) fits.0 is.0 (judged_all editions asks (at + 1) inputs entries fits.1 is.1)

judged_everywhere : (r : RecordValue) (lane : ℕ) (inputs : List (List Input)) (dockets : List DocketValue) (tallies : List (List Count)) (trackers : List ℕ)
    → EachLane (LaneStands r) lane inputs dockets tallies trackers → map judged_outcome (judged_lanes r lane inputs dockets) ≡ map Whole (all_judgements dockets)
judged_everywhere r lane [] [] [] [] each = refl
judged_everywhere r lane (own ∷ inputs) (docket ∷ dockets) (tally ∷ tallies) (tracker ∷ trackers) each =
    let asks = lane_asks lane r.journal.entries in
    let others = judged_lanes r (lane + 1) inputs dockets in
    map-append judged_outcome (judged_records r.editions asks 1 own docket.entries) others
    ∙ ap (λ (first : List Outcome). first ++ map judged_outcome others) (judged_all r.editions asks 1 own docket.entries each.0.entered each.0.evaluated)
    ∙ ap (λ (rest : List Outcome). map Whole (judgements docket.entries) ++ rest) (judged_everywhere r (lane + 1) inputs dockets tallies trackers each.1)
    ∙ sym (map-append Whole (judgements docket.entries) (all_judgements dockets))
judged_everywhere r lane inputs dockets tallies trackers each = absurd each

-- the counters of a legal record add up to its judged packets' hits and bytes, modulo 2^64
pub counters_add_up : CountersAddUp
counters_add_up first commands inputs r legal = record {
  judged = judged_everywhere r 1 inputs r.dockets r.tallies r.trackers legal.lanes;
  packets = λ id. of_lanes id (λ count. count.packets) (λ hit. cond (hit.counter == id) 1 0) (hits_on id) (adds_packets id) r 1 inputs r.dockets r.tallies r.trackers legal.lanes;
  bytes = λ id. of_lanes id (λ count. count.bytes) (λ hit. cond (hit.counter == id) hit.bytes 0) (bytes_on id) (adds_bytes id) r 1 inputs r.dockets r.tallies r.trackers legal.lanes;
}
