-- The states as the report prints them.
use Rattle.std.specs.Prelude.{ℕ, ◌==◌, if◌then◌else◌, List, [], ◌∷◌, ◌++◌, length, codes, slice_index_or}
use Rattle.std.specs.List.{flat_map}
use Rattle.std.specs.Fmt.{decimal}
use Rattle.fw_base.specs.Addr.{address_text}
use Rattle.rule_text.specs.Canonical.{five_digits, spaced_text, protocol_word}
use Rattle.packet_headers.specs.declared.flows.Flow.{Flow}
use Rattle.dyn_states.specs.declared.state.State.{State}
use Rattle.dyn_states.specs.Slots.{is_held}
use Rattle.dyn_states.specs.StateObject.{StateObject}

-- protocol, source and its port, destination and its port, each behind a space
abbrev pub flow_text : Flow → List ℕ
flow_text flow =
    spaced_text (protocol_word flow.protocol
    ∷ address_text flow.source.0 ∷ decimal flow.source_port
    ∷ address_text flow.destination.0 ∷ decimal flow.destination_port ∷ [])

-- the end of a line: a flow name behind a space and a colon, but for `default`, which is name 0
abbrev pub name_end : List (List ℕ) → ℕ → List ℕ
name_end names name = if name == 0 then codes "\n" else codes " :" ++ (slice_index_or names name [] ++ codes "\n")

-- when the state expires, and its flow name
unfoldable pub expiry_text : List (List ℕ) → State → List ℕ
expiry_text names s = codes " expires " ++ (decimal s.expiry ++ name_end names s.name)

-- the number of its rule, its flow, and when it expires
unfoldable pub state_line : List (List ℕ) → State → List ℕ
state_line names s = five_digits s.rule.number ++ (flow_text s.flow ++ expiry_text names s)

-- the line of the state that a slot holds, if it holds one
unfoldable pub slot_text : List (List ℕ) → State → List ℕ
slot_text names s = if is_held s then state_line names s else []

-- the clock, and how many states there are
unfoldable pub states_heading : StateObject → List ℕ
states_heading o = codes "clock " ++ (decimal o.clock ++ (codes "\nstates " ++ (decimal (length o.states) ++ codes "\n")))

-- the heading, and behind it the states in order of making
abbrev pub states_text : List (List ℕ) → StateObject → List ℕ
states_text names o = states_heading o ++ flat_map (state_line names) o.states
