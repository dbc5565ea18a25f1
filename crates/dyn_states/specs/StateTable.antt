-- What holds of the table of states between any two calls: how each of its parts stands to the slots.
use Rattle.std.specs.Prelude.{◌≡◌, ⊤, false, [], ◌∷◌, ℕ, ◌*◌, ◌<◌, ◌≤◌, ◌^◌, List, length, vec_len, vec_capacity}
use Rattle.dyn_states.specs.declared.state.State.{State}
use Rattle.dyn_states.specs.declared.state_table.StateTable.{StateTable}
use Rattle.dyn_states.specs.ExpiryQueue.{Serves, ServesOthers, entry_count, entry_room}
use Rattle.dyn_states.specs.Lines.{Leads, line_room}
use Rattle.dyn_states.specs.Slots.{held_states}
use Rattle.fw_rule.specs.Values.{Values}
use Rattle.dyn_states.specs.StateObject.{StateObject, considers}
use Rattle.state_asks.specs.declared.op.FlowName.TheVariants.{Named}
use Rattle.std.specs.List.{list_any}
use Rattle.dyn_states.specs.Tallies.{IsTallied, HasTallyRoom}

-- the slots, in the order of making
abbrev pub slots_of : StateTable → List State
slots_of t = t.slots.items

-- the states that the table holds, in the order of making
abbrev pub states_of : StateTable → List State
states_of t = held_states t.slots.items

-- Each part has memory for as many slots as there may be, and the tallies for more than as many states.
pub record HasRoom (t : StateTable) : Type 0 where
  pub slots : t.most ≤ vec_capacity t.slots
  pub lines : t.most ≤ line_room t.lines
  pub queue : t.most ≤ entry_room t.queue
  pub tallies : HasTallyRoom t.tallies
  pub pairs : t.most ≤ 2 * t.tallies.room
  pub few : vec_len t.slots ≤ t.most
  pub entries : entry_count t.queue ≤ entry_room t.queue
  pub small : t.most < 2 ^ 32

-- there is room for one more slot, one more entry of the queue, and one more pair of each tally
pub record HasRoomForOne (t : StateTable) : Type 0 where
  pub slots : vec_len t.slots < t.most
  pub queue : entry_count t.queue < entry_room t.queue
  pub pairs : t.tallies.counted < t.tallies.room

-- lines, expiries and tallies are those of the states that the slots hold, and there is room
pub record IsStateTable (t : StateTable) : Type 0 where
  pub leads : Leads (slots_of t) t.lines
  pub serves : Serves (slots_of t) t.queue
  pub tallied : IsTallied (slots_of t) t.tallies
  pub room : HasRoom t

-- the table is as it has to be, but that the expiry of one place isn't in the queue
pub record IsTableBut (t : StateTable) (but : ℕ) : Type 0 where
  pub leads : Leads (slots_of t) t.lines
  pub serves : ServesOthers (slots_of t) t.queue but
  pub tallied : IsTallied (slots_of t) t.tallies
  pub room : HasRoom t

-- lines and expiries are those of the first slots
pub record HasParts (front : List State) (t : StateTable) : Type 0 where
  pub leads : Leads front t.lines
  pub serves : Serves front t.queue

-- the state keeps what its line and its counts go by
pub record IsTouched (before after : State) : Type 0 where
  pub flow : after.flow ≡ before.flow
  pub name : after.name ≡ before.name
  pub rule : after.rule ≡ before.rule

-- no state has the line of a later one
abbrev pub AreApart : List State → Type 0
AreApart [] = ⊤
AreApart (s ∷ rest) = (list_any (λ x. considers x.flow (Named x.name) s) rest ≡ false) × AreApart rest

-- the object that the table holds, with a clock and settings beside it
abbrev pub object_of : StateTable → ℕ → Values → StateObject
object_of t clock settings = record { states = states_of t; clock = clock; settings = settings }

-- There are slots for more than twice as many states as there may be.
pub record IsRoomy (t : StateTable) (settings : Values) : Type 0 where
  pub table : IsStateTable t
  pub held : 2 * length (states_of t) < t.most
  pub most : 2 * settings.max < t.most
