-- Hits. Of the packets that a lane judged, in order, there is a list of keys, the most recent first: empty at
-- the start and wherever the edition isn't that of the judged packet before. An IPv4 packet whose key is in the
-- list is a hit, and its key comes to the front; another one whose judgement may be kept puts its key in front,
-- and the last key beyond the capacity goes.
use Rattle.std.specs.Prelude.{ℕ, ◌+◌, Bool, true, false, ◌&&◌, if◌then◌else◌, is_some, unwrap_or, Option, Some, None, List, [], ◌∷◌, take}
use Rattle.std.specs.List.{list_any}
use Rattle.ip6_headers.specs.declared.any_ip.AnyIp.{AnyIp}
use Rattle.ip6_headers.specs.declared.any_ip.AnyIp.TheVariants.{Four, Six}
use Rattle.rule_gates.specs.Cacheable.{is_cacheable}
use Rattle.state_asks.specs.declared.op.Op.{Op}
use Rattle.verdict_cache.specs.Cache.{is_given}
use Rattle.verdict_cache.specs.Key.{key_of, same_key}
use Rattle.verdict_cache.specs.declared.key.Key.{Key}
use Rattle.eval_engine.specs.Evaluation.{evaluate}
use Rattle.eval_engine.specs.Question.{Question}

-- A packet that a lane judged, as its cache sees it.
pub record Visit : Type 0 where
  -- the number of the edition that judged it
  pub number : ℕ
  -- its key; a packet of IPv6 has none
  pub key : Option Key
  -- whether its judgement may be kept
  pub may_keep : Bool

-- The keys behind some packets, the most recent first, and how many of the packets were hits.
pub record Recent : Type 0 where
  -- the edition of the packet before, none before the first one
  pub number : Option ℕ
  pub keys : List Key
  pub hits : ℕ

-- the key is in the list
abbrev pub has_key : Key → List Key → Bool
has_key key keys = list_any (same_key key) keys

-- the list without the key
abbrev pub without_key : Key → List Key → List Key
without_key key [] = []
without_key key (other ∷ keys) = if same_key key other then keys else other ∷ without_key key keys

-- the keys before a packet under this edition: none where the packet before had another one
abbrev pub keys_under : ℕ → Recent → List Key
keys_under number recent = if is_given recent.number number then recent.keys else []

-- a packet of IPv4 hits where its key is in the list
abbrev pub is_hit : Option Key → List Key → Bool
is_hit None keys = false
is_hit (Some key) keys = has_key key keys

-- the keys behind a packet of this key
abbrev pub keys_after : ℕ → Key → Bool → List Key → List Key
keys_after capacity key may_keep keys =
    if has_key key keys then key ∷ without_key key keys
    else if may_keep then take capacity (key ∷ keys)
    else keys

-- a packet of IPv6 leaves them as they are
abbrev pub keys_by : ℕ → Option Key → Bool → List Key → List Key
keys_by capacity None may_keep keys = keys
keys_by capacity (Some key) may_keep keys = keys_after capacity key may_keep keys

-- behind one packet more
abbrev pub recent_after : ℕ → Recent → Visit → Recent
recent_after capacity recent visit = record {
  number = Some visit.number;
  keys = keys_by capacity visit.key visit.may_keep (keys_under visit.number recent);
  hits = if is_hit visit.key (keys_under visit.number recent) then recent.hits + 1 else recent.hits;
}

-- before the first packet
abbrev pub no_recent : Recent
no_recent = record { number = None; keys = []; hits = 0 }

-- behind some packets more
abbrev pub recent_from : ℕ → Recent → List Visit → Recent
recent_from capacity recent [] = recent
recent_from capacity recent (visit ∷ visits) = recent_from capacity (recent_after capacity recent visit) visits

-- behind these packets, with room for so many keys
abbrev pub recent_of : ℕ → List Visit → Recent
recent_of capacity visits = recent_from capacity no_recent visits

-- how many of the packets are hits, with room for so many keys
abbrev pub hits_in : ℕ → List Visit → ℕ
hits_in capacity visits = (recent_of capacity visits).hits

-- the edition of the last packet
abbrev pub last_number : List Visit → Option ℕ
last_number [] = None
last_number (visit ∷ visits) = Some (unwrap_or (last_number visits) visit.number)

-- the key of a packet of IPv4
abbrev pub key_in : AnyIp → Option Key
key_in (Four packet) = Some (key_of packet)
key_in (Six packet) = None

-- there is no ask
abbrev pub asks_nothing : List Op → Bool
asks_nothing [] = true
asks_nothing (op ∷ ops) = false

-- a judgement may be kept where the packet is of IPv4, each rule of the edition ends the search where it
-- matches, and the evaluation asks nothing
abbrev pub may_keep : Question → Bool
may_keep q = is_some (key_in q.packet) && (is_cacheable q.edition.config.rules && asks_nothing (evaluate q []).asks)

-- the packet of a question, as a cache sees it
abbrev pub visit_of : Question → Visit
visit_of q = record { number = q.edition.number; key = key_in q.packet; may_keep = may_keep q }
