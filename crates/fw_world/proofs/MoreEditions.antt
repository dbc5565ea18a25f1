-- What held of a lane's records holds beside more editions.
use Rattle.std.proofs.Common.{◌≡◌, ℕ, ◌+◌, ◌-◌, List, [], ◌∷◌, ◌++◌, refl, sym, ap, ◌∙◌, subst}
use Rattle.std.specs.Prelude.{IfSome, IsSomeAnd, Option, Some, None, option_and_then}
use Rattle.counter_book.specs.declared.tally.Count.{Count}
use Rattle.generation_store.specs.Published.{Published}
use Rattle.eval_engine.specs.Dockets.{DocketValue, judgement_in}
use Rattle.eval_engine.specs.declared.docket_entry.DocketEntry.{DocketEntry}
use Rattle.eval_engine.specs.declared.judgement.Judgement.{Judgement}
use Rattle.fw_world.specs.Asks.{LaneAsk, asks_of_record}
use Rattle.fw_base.specs.declared.port.Port.{Port}
use Rattle.ip6_headers.specs.declared.any_ip.AnyIp.{AnyIp}
use Rattle.cached_verdicts.specs.LaneCache.{LaneCacheValue, HasRecent}
use Rattle.cached_verdicts.specs.Visits.{Visit}
use Rattle.fw_world.specs.Caches.{IsCacheAmong, KeepsUnder}
use Rattle.fw_world.specs.Editions.{edition_numbered, judging_edition}
use Rattle.fw_world.specs.Entries.{EachRecord, IsEvaluated, IsEvaluatedTo, IsEvaluation}
use Rattle.fw_world.specs.Inputs.{Input, Other, Malformed, Packet}
use Rattle.fw_world.specs.Standing.{StandFor, CacheStandsFor, StandWithCache}
use Rattle.fw_world.specs.Visits.{packet_visits, record_visits, lane_visits}
use Rattle.fw_world.specs.Tallies.{Hit, packet_hits, record_hits, lane_hits, IsTallyOf}
use Rattle.fw_world.proofs.Records.{IsSomeAnd-append, slice_get-append}

-- an evaluation under an edition is one beside more editions
IsEvaluated-append : (editions more : List Published) (asks : List LaneAsk) (at : ℕ) (input : Input) (entered : DocketEntry) → IsEvaluated editions asks at input entered → IsEvaluated (editions ++ more) asks at input entered
IsEvaluated-append editions more asks at Other entered is = is
IsEvaluated-append editions more asks at (Malformed kind) entered is = is
IsEvaluated-append editions more asks at (Packet packet port second) entered is = still (judgement_in entered) is
  where
    own : List LaneAsk
    own = asks_of_record at asks

    still : (judged : Option Judgement) → IfSome judged (IsEvaluatedTo editions packet port second own) → IfSome judged (IsEvaluatedTo (editions ++ more) packet port second own)
    still None is = is
    still (Some judgement) is = IsSomeAnd-append (λ edition. IsEvaluation edition packet port second own judgement) editions more (judgement.edition - 1) is

-- an edition that is there has its number beside more editions
edition_numbered-append : (editions more : List Published) (number : ℕ) (P : Published → Type 0) → IsSomeAnd (edition_numbered editions number) P → edition_numbered (editions ++ more) number ≡ edition_numbered editions number
edition_numbered-append editions more number P is = decided (edition_numbered editions number) refl is
  where
    decided : (found : Option Published) → edition_numbered editions number ≡ found → IsSomeAnd found P → edition_numbered (editions ++ more) number ≡ edition_numbered editions number
    decided None same is = absurd is
    decided (Some edition) same is = slice_get-append editions more (number - 1) edition same ∙ sym same

-- so a record that was judged is judged by the same one
judging_edition-append : (editions more : List Published) (asks : List LaneAsk) (at : ℕ) (packet : AnyIp) (port : Port) (second : ℕ) (entered : DocketEntry) → IsEvaluated editions asks at (Packet packet port second) entered
    → judging_edition (editions ++ more) entered ≡ judging_edition editions entered
judging_edition-append editions more asks at packet port second entered is = still (judgement_in entered) is
  where
    still : (judged : Option Judgement) → IfSome judged (IsEvaluatedTo editions packet port second (asks_of_record at asks))
        → option_and_then (λ (one : Judgement). edition_numbered (editions ++ more) one.edition) judged ≡ option_and_then (λ (one : Judgement). edition_numbered editions one.edition) judged
    still None is = refl
    still (Some judgement) is = edition_numbered-append editions more judgement.edition (λ edition. IsEvaluation edition packet port second (asks_of_record at asks) judgement) is

-- and its hits are the same
record_hits-append : (editions more : List Published) (asks : List LaneAsk) (at : ℕ) (input : Input) (entered : DocketEntry) → IsEvaluated editions asks at input entered → record_hits (editions ++ more) asks at input entered ≡ record_hits editions asks at input entered
record_hits-append editions more asks at Other entered is = refl
record_hits-append editions more asks at (Malformed kind) entered is = refl
record_hits-append editions more asks at (Packet packet port second) entered is =
    ap (λ (edition : Option Published). packet_hits edition packet port second (asks_of_record at asks)) (judging_edition-append editions more asks at packet port second entered is)

-- its cache sees the same
record_visits-append : (editions more : List Published) (asks : List LaneAsk) (at : ℕ) (input : Input) (entered : DocketEntry) → IsEvaluated editions asks at input entered → record_visits (editions ++ more) input entered ≡ record_visits editions input entered
record_visits-append editions more asks at Other entered is = refl
record_visits-append editions more asks at (Malformed kind) entered is = refl
record_visits-append editions more asks at (Packet packet port second) entered is =
    ap (λ (edition : Option Published). packet_visits edition packet port second) (judging_edition-append editions more asks at packet port second entered is)

lane_visits-more : (editions more : List Published) (asks : List LaneAsk) (at : ℕ) (inputs : List Input) (entries : List DocketEntry) → EachRecord (IsEvaluated editions asks) at inputs entries → lane_visits (editions ++ more) inputs entries ≡ lane_visits editions inputs entries
lane_visits-more editions more asks at [] entries each = refl
lane_visits-more editions more asks at (met ∷ inputs) [] each = refl
lane_visits-more editions more asks at (met ∷ inputs) (first ∷ entries) each =
    ap (λ (visits : List Visit). visits ++ lane_visits (editions ++ more) inputs entries) (record_visits-append editions more asks at met first each.0)
    ∙ ap (λ (visits : List Visit). record_visits editions met first ++ visits) (lane_visits-more editions more asks (at + 1) inputs entries each.1)

each-append : (editions more : List Published) (asks : List LaneAsk) (at : ℕ) (inputs : List Input) (entries : List DocketEntry) → EachRecord (IsEvaluated editions asks) at inputs entries → EachRecord (IsEvaluated (editions ++ more) asks) at inputs entries
each-append editions more asks at [] [] each = tt
each-append editions more asks at [] (first ∷ entries) each = each
each-append editions more asks at (met ∷ inputs) [] each = each
each-append editions more asks at (met ∷ inputs) (first ∷ entries) each = (IsEvaluated-append editions more asks at met first each.0, each-append editions more asks (at + 1) inputs entries each.1)

lane_hits-more : (editions more : List Published) (asks : List LaneAsk) (at : ℕ) (inputs : List Input) (entries : List DocketEntry) → EachRecord (IsEvaluated editions asks) at inputs entries → lane_hits (editions ++ more) asks at inputs entries ≡ lane_hits editions asks at inputs entries
lane_hits-more editions more asks at [] entries each = refl
lane_hits-more editions more asks at (met ∷ inputs) [] each = refl
lane_hits-more editions more asks at (met ∷ inputs) (first ∷ entries) each =
    ap (λ (hits : List Hit). hits ++ lane_hits (editions ++ more) asks (at + 1) inputs entries) (record_hits-append editions more asks at met first each.0)
    ∙ ap (λ (hits : List Hit). record_hits editions asks at met first ++ hits) (lane_hits-more editions more asks (at + 1) inputs entries each.1)

StandFor-more : (editions more : List Published) (asks : List LaneAsk) (docket : DocketValue) (tally : List Count) (inputs : List Input) → StandFor editions asks docket tally inputs → StandFor (editions ++ more) asks docket tally inputs
StandFor-more editions more asks docket tally inputs stands = record {
  entered = stands.entered;
  evaluated = each-append editions more asks 1 inputs docket.entries stands.evaluated;
  tallied = subst (λ (hits : List Hit). IsTallyOf hits tally) (sym (lane_hits-more editions more asks 1 inputs docket.entries stands.evaluated)) stands.tallied;
  asked = stands.asked;
}

CacheStandsFor-more : (editions more : List Published) (docket : DocketValue) (cache : Option LaneCacheValue) (inputs : List Input) → lane_visits (editions ++ more) inputs docket.entries ≡ lane_visits editions inputs docket.entries
    → CacheStandsFor editions docket cache inputs → CacheStandsFor (editions ++ more) docket cache inputs
CacheStandsFor-more editions more docket None inputs same stands = tt
CacheStandsFor-more editions more docket (Some own) inputs same stands = subst (λ (visits : List Visit). HasRecent own.kept.capacity visits own) (sym same) stands

-- a lane stands for what it stood for beside more editions
pub StandWithCache-more : (editions more : List Published) (asks : List LaneAsk) (docket : DocketValue) (tally : List Count) (cache : Option LaneCacheValue) (inputs : List Input)
    → StandWithCache editions asks docket tally cache inputs → StandWithCache (editions ++ more) asks docket tally cache inputs
StandWithCache-more editions more asks docket tally cache inputs stands = record {
  stands = StandFor-more editions more asks docket tally inputs stands.stands;
  cached = CacheStandsFor-more editions more docket cache inputs (lane_visits-more editions more asks 1 inputs docket.entries stands.stands.evaluated) stands.cached;
}

-- and its cache keeps what is true under one of them
pub IsCacheAmong-more : (editions more : List Published) (cache : Option LaneCacheValue) → IsCacheAmong editions cache → IsCacheAmong (editions ++ more) cache
IsCacheAmong-more editions more None is = tt
IsCacheAmong-more editions more (Some own) is = given own.kept.number is
  where
    given : (last : Option ℕ) → IfSome last (λ number. IsSomeAnd (edition_numbered editions number) (λ edition. KeepsUnder edition own)) → IfSome last (λ number. IsSomeAnd (edition_numbered (editions ++ more) number) (λ edition. KeepsUnder edition own))
    given None is = tt
    given (Some number) is = IsSomeAnd-append (λ edition. KeepsUnder edition own) editions more (number - 1) is
