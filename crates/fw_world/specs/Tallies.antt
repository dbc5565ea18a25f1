-- What the judged packets of a lane are counted under.
use Rattle.std.specs.Prelude.{◌≡◌, ℕ, ◌+◌, ◌%◌, ◌^◌, ◌==◌, if◌then◌else◌, Option, Some, None, List, [], ◌∷◌, ◌++◌, map, count_by, sum_by}
use Rattle.fw_base.specs.declared.port.Port.{Port}
use Rattle.ip6_headers.specs.Either.{total_of}
use Rattle.ip6_headers.specs.declared.any_ip.AnyIp.{AnyIp}
use Rattle.counter_book.specs.Counts.{counted_under}
use Rattle.counter_book.specs.declared.tally.Count.{Count}
use Rattle.generation_store.specs.Published.{Published}
use Rattle.eval_engine.specs.declared.docket_entry.DocketEntry.{DocketEntry}
use Rattle.fw_world.specs.Asks.{LaneAsk, asks_of_record}
use Rattle.fw_world.specs.Editions.{judging_edition}
use Rattle.fw_world.specs.Entries.{evaluation_under}
use Rattle.fw_world.specs.Inputs.{Input, Other, Malformed, Packet}

-- a counter number, and the packet's bytes
pub record Hit : Type 0 where
  pub counter : ℕ
  pub bytes : ℕ

-- one hit for each of these counter numbers
abbrev pub hits_under : ℕ → List ℕ → List Hit
hits_under bytes counters = map (λ counter. record { counter = counter; bytes = bytes }) counters

-- the hits of a packet's evaluation under an edition
abbrev pub packet_hits : Option Published → AnyIp → Port → ℕ → List LaneAsk → List Hit
packet_hits None packet port second asks = []
packet_hits (Some edition) packet port second asks = hits_under (total_of packet) (evaluation_under edition packet port second asks).hits

-- the hits of a record, under the edition that its entry names
abbrev pub record_hits : List Published → List LaneAsk → ℕ → Input → DocketEntry → List Hit
record_hits editions asks at (Packet packet port second) entered = packet_hits (judging_edition editions entered) packet port second (asks_of_record at asks)
record_hits editions asks at Other entered = []
record_hits editions asks at (Malformed kind) entered = []

-- the hits of all records from this one on
abbrev pub lane_hits : List Published → List LaneAsk → ℕ → List Input → List DocketEntry → List Hit
lane_hits editions asks at [] entries = []
lane_hits editions asks at (input ∷ inputs) [] = []
lane_hits editions asks at (input ∷ inputs) (entered ∷ entries) = record_hits editions asks at input entered ++ lane_hits editions asks (at + 1) inputs entries

-- packets and bytes of the hits under a counter number, each modulo 2^64
abbrev pub count_in : List Hit → ℕ → Count
count_in hits id = record {
  packets = count_by (λ hit. hit.counter == id) hits % 2 ^ 64;
  bytes = sum_by (λ hit. if hit.counter == id then hit.bytes else 0) hits % 2 ^ 64;
}

-- the tally has, under each counter number, the sum of these hits
abbrev pub IsTallyOf : List Hit → List Count → Type 0
IsTallyOf hits tally = (id : ℕ) → counted_under tally id ≡ count_in hits id
