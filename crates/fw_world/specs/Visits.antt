-- The packets that a lane judged, in order, as its cache sees them.
use Rattle.std.specs.Prelude.{ℕ, Option, Some, None, List, [], ◌∷◌, ◌++◌}
use Rattle.fw_base.specs.declared.port.Port.{Port}
use Rattle.ip6_headers.specs.declared.any_ip.AnyIp.{AnyIp}
use Rattle.generation_store.specs.Published.{Published}
use Rattle.eval_engine.specs.Question.{question_under}
use Rattle.eval_engine.specs.declared.docket_entry.DocketEntry.{DocketEntry}
use Rattle.cached_verdicts.specs.Visits.{Visit, visit_of}
use Rattle.fw_world.specs.Editions.{judging_edition}
use Rattle.fw_world.specs.Inputs.{Input, Other, Malformed, Packet}

-- a packet under an edition
abbrev pub packet_visits : Option Published → AnyIp → Port → ℕ → List Visit
packet_visits None packet port second = []
packet_visits (Some edition) packet port second = visit_of (question_under edition packet port second) ∷ []

-- a record, under the edition that its entry names
abbrev pub record_visits : List Published → Input → DocketEntry → List Visit
record_visits editions (Packet packet port second) entered = packet_visits (judging_edition editions entered) packet port second
record_visits editions Other entered = []
record_visits editions (Malformed kind) entered = []

-- all records
abbrev pub lane_visits : List Published → List Input → List DocketEntry → List Visit
lane_visits editions [] entries = []
lane_visits editions (input ∷ inputs) [] = []
lane_visits editions (input ∷ inputs) (entered ∷ entries) = record_visits editions input entered ++ lane_visits editions inputs entries
