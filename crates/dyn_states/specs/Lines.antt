-- A line: what two states that live side by side never share, the flow in either direction and the name
-- (ipfw(8), "STATEFUL FIREWALL"). From each line a way to the place of its state.
use Rattle.std.specs.Prelude.{◌≡◌, ℕ, ◌+◌, ◌<◌, ◌≤◌, Bool, true, nat_lt, nat_le, ◌==◌, ◌&&◌, ◌||◌, if◌then◌else◌, Option, Some, List, length}
use Rattle.std.specs.HashMap.{get, hash_map_len, spare}
use Rattle.packet_headers.specs.declared.flows.Flow.{Flow}
use Rattle.dyn_states.specs.declared.state.State.{State}
use Rattle.dyn_states.specs.declared.lines.Line.{Line}
use Rattle.dyn_states.specs.declared.lines.Lines.{Lines}
use Rattle.dyn_states.specs.Flows.{reverse_flow}
use Rattle.dyn_states.specs.Slots.{is_held, slot}

-- the flow goes from the lower of its ends to the higher
abbrev pub is_upward : Flow → Bool
is_upward f = nat_lt f.source.0 f.destination.0 || (f.source.0 == f.destination.0 && nat_le f.source_port f.destination_port)

-- the direction of the flow in which it goes upward
abbrev pub upward_flow : Flow → Flow
upward_flow f = if is_upward f then f else reverse_flow f

-- the line of a flow and a name
abbrev pub line_of : Flow → ℕ → Line
line_of flow name = record { flow = upward_flow flow; name = name }

-- the line of a state
abbrev pub line_at : State → Line
line_at s = line_of s.flow s.name

-- two flows are one
abbrev pub flow_eq : Flow → Flow → Bool
flow_eq a b =
    a.source.0 == b.source.0 && (a.destination.0 == b.destination.0
    && (a.source_port == b.source_port && (a.destination_port == b.destination_port && a.protocol == b.protocol)))

-- two lines are one
abbrev pub line_eq : Line → Line → Bool
line_eq a b = flow_eq a.flow b.flow && a.name == b.name

-- whether two lines are one
unfoldable pub same_line : Line → Line → Bool
same_line a b = line_eq a b

-- where a line leads
unfoldable pub place_of : Lines → Line → Option ℕ
place_of lines line = get line_eq lines.places line

-- how many lines there are, and for how many there is memory
abbrev pub line_count : Lines → ℕ
line_count lines = hash_map_len lines.places

-- how many lines there are, and for how many more there is memory
abbrev pub line_room : Lines → ℕ
line_room lines = hash_map_len lines.places + spare lines.places

-- Each held state is where its line leads. So no two of them have one line.
pub record Leads (slots : List State) (lines : Lines) : Type 0 where
  pub here : (k : ℕ) → k < length slots → is_held (slot slots k) ≡ true → place_of lines (line_at (slot slots k)) ≡ Some k
  pub names : (k : ℕ) → k < length slots → is_held (slot slots k) ≡ true → (slot slots k).name < lines.names_end
  pub ends : lines.names_end ≤ 256
  pub count : line_count lines ≤ length slots
