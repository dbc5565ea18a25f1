-- How many states a limit counts (ipfw(8), `limit`): by a rule's identity and a parameter's value.
use Rattle.std.specs.Prelude.{◌≡◌, ℕ, ◌+◌, ◌≤◌, Bool, ◌==◌, ◌&&◌, List, count_by, unwrap_or}
use Rattle.std.specs.HashMap.{get, hash_map_len, spare}
use Rattle.fw_rule.specs.declared.state_opt.LimitMask.{LimitMask}
use Rattle.dyn_states.specs.declared.state.State.{State}
use Rattle.dyn_states.specs.declared.limit_counts.LimitCounts.{LimitCounts}
use Rattle.dyn_states.specs.StateObject.{parameter}
use Rattle.dyn_states.specs.Slots.{is_held}

-- an identity and a parameter's value
abbrev pub pair_eq : ℕ × ℕ → ℕ × ℕ → Bool
pair_eq a b = a.0 == b.0 && a.1 == b.1

-- whether two pairs are one
unfoldable pub same_pair : ℕ × ℕ → ℕ × ℕ → Bool
same_pair a b = pair_eq a b

-- how many states are counted for the pair
unfoldable pub amount_of : LimitCounts → ℕ × ℕ → ℕ
amount_of counts pair = unwrap_or (get pair_eq counts.amounts pair) 0

-- how many pairs are known, and for how many there is memory
abbrev pub pair_count : LimitCounts → ℕ
pair_count counts = hash_map_len counts.amounts

-- how many pairs are known, and for how many more there is memory
abbrev pub pair_room : LimitCounts → ℕ
pair_room counts = hash_map_len counts.amounts + spare counts.amounts

-- what a state is counted for, by the mask
abbrev pub pair_of : LimitMask → State → ℕ × ℕ
pair_of mask s = (s.rule.id, parameter mask s.flow)

-- the slot holds a state that is counted for the pair
abbrev pub is_counted_for : LimitMask → ℕ × ℕ → State → Bool
is_counted_for mask pair s = is_held s && same_pair (pair_of mask s) pair

-- the counts are those of the held states
pub record Counts (mask : LimitMask) (slots : List State) (counts : LimitCounts) : Type 0 where
  pub amounts : (pair : ℕ × ℕ) → amount_of counts pair ≡ count_by (is_counted_for mask pair) slots

-- so many pairs are known at most, and there is memory for so many
pub record HasPairRoom (known most : ℕ) (counts : LimitCounts) : Type 0 where
  pub pairs : pair_count counts ≤ known
  pub room : most ≤ pair_room counts
