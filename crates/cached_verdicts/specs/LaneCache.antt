-- A cache of verdicts, and a lane's cache with its count, beside the definition of hits.
use Rattle.std.specs.Prelude.{◌≡◌, ℕ, ◌+◌, ◌-◌, ◌^◌, ◌≤◌, ◌⊎◌, min, ⊤, Bool, false, if◌then◌else◌, is_some, IfSome, Option, Some, None, List, [], ◌∷◌, ◌++◌}
use Rattle.std.specs.Map.{keys_of}
use Rattle.fw_base.specs.declared.port.Port.{Port}
use Rattle.generation_store.specs.Published.{Published}
use Rattle.verdict_cache.specs.Cache.{Kept, empty_cache, at_number, kept_value_of, with_key_first, with_pair}
use Rattle.verdict_cache.specs.declared.key.Key.{Key}
use Rattle.eval_engine.specs.Evaluation.{evaluate}
use Rattle.eval_engine.specs.Question.{Question}
use Rattle.cached_verdicts.specs.Verdicts.{evaluated_at_once, KeepsVerdicts}
use Rattle.cached_verdicts.specs.Visits.{Visit, Recent, keys_under, recent_of, hits_in, last_number, may_keep, visit_of}
use Rattle.cached_verdicts.specs.declared.kept_verdict.KeptVerdict.{KeptVerdict}

-- no packet before is of a later edition
abbrev pub IsNoneBefore : Option ℕ → ℕ → Type 0
IsNoneBefore None number = ⊤
IsNoneBefore (Some last) number = last ≤ number

-- The cache keeps the values of the recent keys, in their order, for each edition that may come: editions
-- don't fall.
pub record KeepsRecent (capacity : ℕ) (recent : Recent) {V : Type 0} (kept : Kept V) : Type 0 where
  pub room : kept.capacity ≡ capacity
  -- it was given no number above that of the packet before
  pub given : (number : ℕ) → IsNoneBefore recent.number number → IsNoneBefore kept.number number
  pub keys : (number : ℕ) → IsNoneBefore recent.number number → keys_of (at_number number kept).pairs ≡ keys_under number recent

module _ {V : Type 0} where
  -- a value more, if there is one to keep
  abbrev pub with_value : Key → Option V → Kept V → Kept V
  with_value key None kept = kept
  with_value key (Some value) kept = with_pair key value kept

  -- the cache behind a packet of this key under this edition: what it finds comes to the front, else the value
  -- is kept, if there is one to keep
  abbrev pub kept_by_key : Key → ℕ → Option V → Kept V → Kept V
  kept_by_key key number value kept =
      if is_some (kept_value_of key (at_number number kept)) then with_key_first key (at_number number kept)
      else with_value key value (with_key_first key (at_number number kept))

  -- a packet of IPv6 passes it by
  abbrev pub kept_behind : Option Key → ℕ → Option V → Kept V → Kept V
  kept_behind None number value kept = kept
  kept_behind (Some key) number value kept = kept_by_key key number value kept

  -- a look of the packet finds a value
  abbrev pub finds : Option Key → ℕ → Kept V → Bool
  finds None number kept = false
  finds (Some key) number kept = is_some (kept_value_of key (at_number number kept))

  -- The packet was looked up, and its value was kept where it may be.
  pub record IsVisited (visit : Visit) (is_hit : Bool) (old new : Kept V) : Type 0 where
    pub value : Option V
    pub fits : is_some value ≡ visit.may_keep
    pub now : new ≡ kept_behind visit.key visit.number value old
    pub hit : is_hit ≡ finds visit.key visit.number old

-- What is to be kept of an evaluation: a value exactly where its judgement may be kept, and a true one.
pub record IsToKeep (q : Question) (value : Option KeptVerdict) : Type 0 where
  pub fits : is_some value ≡ may_keep q
  pub once : IfSome value (λ kept. evaluate q [] ≡ evaluated_at_once kept)

-- A lane's cache: where the packets that it saw were captured, none before the first; what it keeps; and how
-- many hits it has counted.
pub record LaneCacheValue : Type 0 where
  pub port : Option Port
  pub kept : Kept KeptVerdict
  pub hits : ℕ

-- a lane's cache with room for so many keys, at the start
abbrev pub empty_lane_cache : ℕ → LaneCacheValue
empty_lane_cache capacity = record { port = None; kept = empty_cache capacity; hits = 0 }

-- the cache may be looked into for packets at this port: those before, if there were any, were captured there
abbrev pub IsPortOf : LaneCacheValue → Port → Type 0
IsPortOf cache port = IfSome cache.port (λ own. own ≡ port)

-- Under the edition all that the cache keeps is true of packets for which it may be looked into.
abbrev pub IsTrueUnder : Published → LaneCacheValue → Type 0
IsTrueUnder edition cache = (port : Port) → IsPortOf cache port → KeepsVerdicts edition port cache.kept

-- The cache was looked into for a packet at this port under this edition, and its judgement was kept or not. A
-- packet of IPv6 leaves what it keeps.
pub record IsLookedInto (edition : Published) (port : Port) (old new : LaneCacheValue) : Type 0 where
  pub port_is : new.port ≡ Some port
  pub room : new.kept.capacity ≡ old.kept.capacity
  pub kept : IsTrueUnder edition new
  pub given : (new.kept ≡ old.kept) ⊎ (new.kept.number ≡ Some edition.number)

-- the count behind one packet more, which stands still at its end
abbrev pub hits_after : Bool → ℕ → ℕ
hits_after hit hits = if hit then min (hits + 1) (2 ^ 64 - 1) else hits

-- Behind these packets, the cache with this capacity keeps the recent keys, and has counted the hits.
pub record HasRecent (capacity : ℕ) (visits : List Visit) (lane : LaneCacheValue) : Type 0 where
  pub kept : KeepsRecent capacity (recent_of capacity visits) lane.kept
  pub hits : lane.hits ≡ min (hits_in capacity visits) (2 ^ 64 - 1)

-- The cache has seen the packet of this question behind those before: editions don't fall.
abbrev pub SeesPacket : Question → LaneCacheValue → LaneCacheValue → Type 0
SeesPacket q old new =
    (capacity : ℕ) (visits : List Visit) → IsNoneBefore (last_number visits) q.edition.number → HasRecent capacity visits old → HasRecent capacity (visits ++ visit_of q ∷ []) new
