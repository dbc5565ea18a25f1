-- Slots: the states in the order of making, where one that was given up stays in its place until the
-- slots are compacted. Its expiry is 0, which no state that lives has.
use Rattle.std.specs.Prelude.{◌≡◌, ℕ, ◌<◌, Bool, true, false, nat_lt, ◌&&◌, if◌then◌else◌, Option, Some, None, List, filter, length, slice_index_or}
use Rattle.dyn_states.specs.declared.state.State.{State}

-- what stands beyond the last slot
abbrev pub no_state : State
no_state = record {
  flow = record { source = record { 0 = 0 }; destination = record { 0 = 0 }; source_port = 0; destination_port = 0; protocol = 0 };
  rule = record { id = 0; number = 0 };
  limit = None;
  name = 0;
  expiry = 0;
  forward = 0;
  reverse = 0;
}

-- the slot in that place
abbrev pub slot : List State → ℕ → State
slot slots place = slice_index_or slots place no_state

-- the slot holds a state
abbrev pub is_held : State → Bool
is_held s = nat_lt 0 s.expiry

-- the states of the slots, in order of making
abbrev pub held_states : List State → List State
held_states slots = filter is_held slots

-- the slot without its state
abbrev pub given_up : State → State
given_up s = record s { expiry = 0 }

-- the slot holds a state that passes the test
abbrev pub holds_one : (State → Bool) → State → Bool
holds_one test s = is_held s && test s

-- the answer is the first place whose slot holds a state that passes the test, or there is none
abbrev pub IsFirstPlace : (State → Bool) → List State → Option ℕ → Type 0
IsFirstPlace test slots None = (k : ℕ) → k < length slots → holds_one test (slot slots k) ≡ false
IsFirstPlace test slots (Some place) =
    (place < length slots)
    × (holds_one test (slot slots place) ≡ true)
    × ((k : ℕ) → k < place → holds_one test (slot slots k) ≡ false)

-- the earlier of two places
abbrev pub earlier_place : Option ℕ → Option ℕ → Option ℕ
earlier_place None other = other
earlier_place (Some place) None = Some place
earlier_place (Some place) (Some other) = Some (if nat_lt other place then other else place)
