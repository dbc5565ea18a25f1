-- The cache of a lane, which may have none.
use Rattle.std.specs.Prelude.{◌≡◌, ◌≤◌, ℕ, ◌⊎◌, IfSome, IsSomeAnd, Option, Some, None, List, ◌∷◌, slice_get}
use Rattle.std.specs.Option.{option_map}
use Rattle.fw_base.specs.declared.port.Port.{Port}
use Rattle.rule_chain.specs.Configuration.{Configuration}
use Rattle.generation_store.specs.Published.{Published, IsBuilt}
use Rattle.eval_engine.specs.Question.{Question}
use Rattle.fw_base.specs.declared.limits.TheConstants.{MOST_VERDICTS}
use Rattle.cached_verdicts.specs.LaneCache.{LaneCacheValue, empty_lane_cache, IsPortOf, IsTrueUnder, IsLookedInto, SeesPacket}
use Rattle.cached_verdicts.specs.Verdicts.{KeepsVerdicts}
use Rattle.fw_world.specs.Editions.{edition_numbered}

-- a cache is opened for 1 to 65,536 verdicts, if there is to be one
abbrev pub IsCacheSize : Option ℕ → Type 0
IsCacheSize capacity = IfSome capacity (λ room. (1 ≤ room) × (room ≤ MOST_VERDICTS))

-- a new lane's cache with room for so many verdicts, where it has one
abbrev pub first_cache : Option ℕ → Option LaneCacheValue
first_cache capacity = option_map empty_lane_cache capacity

-- for how many verdicts it has room
abbrev pub capacity_of : Option LaneCacheValue → Option ℕ
capacity_of cache = option_map (λ own. own.kept.capacity) cache

-- the hits before others that the cache of a lane has counted
abbrev pub counted_before : Option LaneCacheValue → List ℕ → List ℕ
counted_before None counts = counts
counted_before (Some cache) counts = cache.hits ∷ counts

-- packets that are captured at this port may be judged: those before, if a cache saw any, were captured there
abbrev pub IsPortFor : Option LaneCacheValue → Port → Type 0
IsPortFor cache port = IfSome cache (λ own. IsPortOf own port)

-- under this edition all that it keeps is true
abbrev pub IsTrueFor : Published → Option LaneCacheValue → Type 0
IsTrueFor edition cache = IfSome cache (IsTrueUnder edition)

-- The cache behind a packet that was to be judged under this edition: it was looked into, or memory was wanted
-- before.
abbrev pub IsCacheBehind : Published → Port → Option LaneCacheValue → Option LaneCacheValue → Type 0
IsCacheBehind edition port None new = new ≡ None
IsCacheBehind edition port (Some old) new = IsSomeAnd new (λ own. (own ≡ old) ⊎ IsLookedInto edition port old own)

-- A cache saw the packet.
pub record SeesOne (q : Question) (old new : LaneCacheValue) : Type 0 where
  pub looked : IsLookedInto q.edition q.port old new
  pub seen : SeesPacket q old new

-- the cache behind a packet that was judged
abbrev pub IsCacheAfter : Question → Option LaneCacheValue → Option LaneCacheValue → Type 0
IsCacheAfter q None new = new ≡ None
IsCacheAfter q (Some old) new = IsSomeAnd new (SeesOne q old)

-- under this edition all that the cache keeps is true of packets at its port, and it has one
abbrev pub KeepsUnder : Published → LaneCacheValue → Type 0
KeepsUnder edition cache = IsSomeAnd cache.port (λ port. KeepsVerdicts edition port cache.kept)

-- All that it keeps is true under the edition of its number, which is one of these.
abbrev pub IsCacheAmong : List Published → Option LaneCacheValue → Type 0
IsCacheAmong editions cache = IfSome cache (λ own. IfSome own.kept.number (λ number. IsSomeAnd (edition_numbered editions number) (λ edition. KeepsUnder edition own)))

-- Under this number a configuration was seen, under which all that the cache keeps is true.
pub record KeepsSeen (seen : List (ℕ × Configuration)) (number : ℕ) (cache : LaneCacheValue) : Type 0 where
  pub place : ℕ
  pub config : Configuration
  pub pair : slice_get seen place ≡ Some (number, config)
  pub kept : (edition : Published) → IsBuilt number config edition → KeepsUnder edition cache

-- The same said by what the lane saw, without the editions of its world.
abbrev pub IsCacheSeen : List (ℕ × Configuration) → Option LaneCacheValue → Type 0
IsCacheSeen seen cache = IfSome cache (λ own. IfSome own.kept.number (λ number. KeepsSeen seen number own))
