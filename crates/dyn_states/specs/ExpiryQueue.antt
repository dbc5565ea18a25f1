-- The order in which states may die: pairs of an expiry and a place, the earliest first. A pair may come
-- before its state's expiry, which a packet has put off since.
use Rattle.std.specs.Prelude.{◌≡◌, ◌≢◌, ℕ, ◌<◌, Bool, true, nat_le, ◌==◌, ◌&&◌, List, length, count_by}
use Rattle.std.specs.List.{list_any}
use Rattle.std.specs.declared.cmp.Reverse.{Reverse}
use Rattle.std.specs.declared.cmp.Ordering.{Ordering}
use Rattle.std.specs.Ordering.{ordering_then, nat_cmp}
use Rattle.std.specs.BinaryHeap.{heap_items, heap_len, heap_capacity, IsHeap}
use Rattle.dyn_states.specs.declared.state.State.{State}
use Rattle.dyn_states.specs.declared.expiry_queue.ExpiryQueue.{ExpiryQueue}
use Rattle.dyn_states.specs.Slots.{is_held, slot}

-- an expiry and a place
abbrev pub Entry : Type 0
Entry = Reverse (ℕ × ℕ)

-- the pairs in the queue
abbrev pub entries : ExpiryQueue → List Entry
entries queue = heap_items queue.heap

-- how many pairs there are
abbrev pub entry_count : ExpiryQueue → ℕ
entry_count queue = heap_len queue.heap

-- for how many pairs there is memory
abbrev pub entry_room : ExpiryQueue → ℕ
entry_room queue = heap_capacity queue.heap

-- the entry comes by that second
abbrev pub is_due : ℕ → Entry → Bool
is_due clock e = nat_le e.0.0 clock

-- how many entries come by that second
abbrev pub due_count : ℕ → ExpiryQueue → ℕ
due_count clock queue = count_by (is_due clock) (entries queue)

-- the entry is of that place, and comes before the expiry or with it
abbrev pub serves : ℕ → ℕ → Entry → Bool
serves place expiry e = e.0.1 == place && nat_le e.0.0 expiry

-- the earlier expiry is the greater pair; of equal ones the earlier place
abbrev pub entry_cmp : Entry → Entry → Ordering
entry_cmp a b = ordering_then (nat_cmp b.0.0 a.0.0) (nat_cmp b.0.1 a.0.1)

-- the queue's heap is in order
abbrev pub IsQueue : ExpiryQueue → Type 0
IsQueue queue = IsHeap entry_cmp (entries queue)

-- each held state has an entry that doesn't come behind its expiry
pub record Serves (slots : List State) (queue : ExpiryQueue) : Type 0 where
  pub served : (k : ℕ) → k < length slots → is_held (slot slots k) ≡ true → list_any (serves k (slot slots k).expiry) (entries queue) ≡ true
  pub order : IsQueue queue

-- each held state but that of one place has an entry that doesn't come behind its expiry
pub record ServesOthers (slots : List State) (queue : ExpiryQueue) (but : ℕ) : Type 0 where
  pub served : (k : ℕ) → k ≢ but → k < length slots → is_held (slot slots k) ≡ true → list_any (serves k (slot slots k).expiry) (entries queue) ≡ true
  pub order : IsQueue queue
