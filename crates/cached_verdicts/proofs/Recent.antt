-- The cache beside the definition of hits: it keeps the values of the recent keys.
use Rattle.std.proofs.Common.{◌≡◌, ℕ, ◌+◌, ◌-◌, ◌^◌, ◌≤◌, ◌<◌, min, Bool, true, false, ◌==◌, if◌then◌else◌, is_some, Option, Some, None, List, [], ◌∷◌, ◌++◌, take, refl, ap, sym, ◌∙◌, arith}
use Rattle.std.proofs.lemmas.List.{take-map}
use Rattle.std.proofs.lemmas.Map.Made.{is_some-lookup}
use Rattle.std.specs.Map.{keys_of, lookup_entry, remove_entry}
use Rattle.lru.specs.LruCache.{promoted}
use Rattle.verdict_cache.specs.Cache.{Kept, is_given, at_number, kept_value_of}
use Rattle.verdict_cache.specs.Key.{same_key}
use Rattle.verdict_cache.specs.declared.key.Key.{Key}
use Rattle.verdict_cache.proofs.SameKey.{same_key-equal}
use Rattle.cached_verdicts.specs.Visits.{Visit, Recent, has_key, without_key, keys_under, is_hit, keys_after, recent_after, no_recent, recent_from, recent_of, last_number}
use Rattle.cached_verdicts.specs.LaneCache.{IsNoneBefore, KeepsRecent, kept_by_key, kept_behind, finds, IsVisited, LaneCacheValue, hits_after, HasRecent, empty_lane_cache}

-- ---- keys of pairs

module _ {V : Type 0} (key : Key) where
  -- a pair that a look finds
  record IsEntry (pairs : List (Key × V)) : Type 0 where
    pair : Key × V
    found : lookup_entry (same_key key) pairs ≡ Some pair
    is : pair.0 ≡ key

  entry_of : (pairs : List (Key × V)) → has_key key (keys_of pairs) ≡ true → IsEntry pairs
  entry_of [] has = absurd (grind arith)
  entry_of (pair ∷ pairs) has = go (entry_of pairs) (same_key key pair.0) refl
    where
      go : (has_key key (keys_of pairs) ≡ true → IsEntry pairs) → (same : Bool) → same_key key pair.0 ≡ same → IsEntry (pair ∷ pairs)
      go rest true is = record { pair = pair; found = rw is refl; is = sym (same_key-equal key pair.0 is) }
      go rest false is =
          let entry = rest (rw is at has) in
          record { pair = entry.pair; found = rw is entry.found; is = entry.is }

  entry_none : (pairs : List (Key × V)) → has_key key (keys_of pairs) ≡ false → lookup_entry (same_key key) pairs ≡ None
  entry_none [] has = refl
  entry_none (pair ∷ pairs) has = go (entry_none pairs) (same_key key pair.0) refl
    where
      go : (has_key key (keys_of pairs) ≡ false → lookup_entry (same_key key) pairs ≡ None) → (same : Bool) → same_key key pair.0 ≡ same → lookup_entry (same_key key) (pair ∷ pairs) ≡ None
      go rest true is = let h = rw is at has in cc
      go rest false is = rw is (rest (rw is at has))

  removed_keys : (pairs : List (Key × V)) → keys_of (remove_entry (same_key key) pairs) ≡ without_key key (keys_of pairs)
  removed_keys [] = refl
  removed_keys (pair ∷ pairs) = go (removed_keys pairs) (same_key key pair.0) refl
    where
      go : keys_of (remove_entry (same_key key) pairs) ≡ without_key key (keys_of pairs) → (same : Bool) → same_key key pair.0 ≡ same
          → keys_of (remove_entry (same_key key) (pair ∷ pairs)) ≡ without_key key (keys_of (pair ∷ pairs))
      go rest true is = rw is refl
      go rest false is = rw is (ap (λ (keys : List Key). pair.0 ∷ keys) rest)

  found_first : (pairs : List (Key × V)) → has_key key (keys_of pairs) ≡ true → keys_of (promoted (same_key key) pairs) ≡ key ∷ without_key key (keys_of pairs)
  found_first pairs has =
      let entry = entry_of pairs has in
      rw entry.found (ap (λ (k : Key). k ∷ keys_of (remove_entry (same_key key) pairs)) entry.is ∙ ap (λ (keys : List Key). key ∷ keys) (removed_keys pairs))

  missed_first : (pairs : List (Key × V)) → has_key key (keys_of pairs) ≡ false → promoted (same_key key) pairs ≡ pairs
  missed_first pairs has = rw (entry_none pairs has) refl

  -- ---- a packet of this key

  module _ (number : ℕ) (kept : Kept V) where
    abbrev before : List (Key × V)
    before = (at_number number kept).pairs

    finds_key : is_some (kept_value_of key (at_number number kept)) ≡ has_key key (keys_of before)
    finds_key = is_some-lookup (same_key key) before

    kept_keys : (value : Option V) (has : Bool) → has_key key (keys_of before) ≡ has
        → keys_of (kept_by_key key number value kept).pairs ≡ keys_after kept.capacity key (is_some value) (keys_of before)
    kept_keys value true is = rw (finds_key ∙ is, is) (found_first before is)
    kept_keys None false is = rw (finds_key ∙ is, is) (ap (λ (pairs : List (Key × V)). keys_of pairs) (missed_first before is))
    kept_keys (Some value) false is =
        rw (finds_key ∙ is, is)
        (sym (take-map (λ (pair : Key × V). pair.0) kept.capacity ((key, value) ∷ promoted (same_key key) before))
        ∙ ap (λ (pairs : List (Key × V)). take kept.capacity (key ∷ keys_of pairs)) (missed_first before is))

    kept_number : (value : Option V) (has : Bool) → is_some (kept_value_of key (at_number number kept)) ≡ has → (kept_by_key key number value kept).number ≡ Some number
    kept_number value true is = rw is refl
    kept_number None false is = rw is refl
    kept_number (Some value) false is = rw is refl

    kept_room : (value : Option V) (has : Bool) → is_some (kept_value_of key (at_number number kept)) ≡ has → (kept_by_key key number value kept).capacity ≡ kept.capacity
    kept_room value true is = rw is refl
    kept_room None false is = rw is refl
    kept_room (Some value) false is = rw is refl

-- ---- editions that don't fall

not_before_later : (last : Option ℕ) (number later : ℕ) → IsNoneBefore last number → number ≤ later → IsNoneBefore last later
not_before_later None number later h le = tt
not_before_later (Some last) number later h le = omega arith

-- of a later edition than that of a packet there are no keys
keys_later : (recent : Recent) (number later : ℕ) → IsNoneBefore recent.number number → number ≤ later
    → keys_under later recent ≡ (if number == later then keys_under number recent else [])
keys_later recent number later h le = go (number == later) refl
  where
    behind : (last : Option ℕ) → IsNoneBefore last number → number < later → is_given last later ≡ false
    behind None h lt = refl
    behind (Some last) h lt = grind arith

    go : (same : Bool) → (number == later) ≡ same → keys_under later recent ≡ (if number == later then keys_under number recent else [])
    go true is = let equal : number ≡ later = grind arith in rw is (ap (λ (n : ℕ). keys_under n recent) (sym equal))
    go false is =
        let lt : number < later = grind arith in
        let gone = behind recent.number h lt in
        rw (is, gone) refl

-- ---- one packet more

module _ {V : Type 0} (capacity : ℕ) (recent : Recent) where
  keeps_behind : (key : Option Key) (number : ℕ) (value : Option V) (kept : Kept V) → KeepsRecent capacity recent kept → IsNoneBefore recent.number number
      → KeepsRecent capacity (recent_after capacity recent (record { number = number; key = key; may_keep = is_some value })) (kept_behind key number value kept)
  keeps_behind None number value kept k h = record {
    room = k.room;
    given = λ later le. k.given later (not_before_later recent.number number later h le);
    keys = λ later le. k.keys later (not_before_later recent.number number later h le) ∙ keys_later recent number later h le;
  }
  keeps_behind (Some key) number value kept k h =
      let is = kept_number key number kept value (is_some (kept_value_of key (at_number number kept))) refl in
      record {
        room = kept_room key number kept value (is_some (kept_value_of key (at_number number kept))) refl ∙ k.room;
        given = λ later le. rw is le;
        keys = λ later le. go later (number == later) refl is;
      }
    where
      go : (later : ℕ) (same : Bool) → (number == later) ≡ same → (kept_by_key key number value kept).number ≡ Some number
          → keys_of (at_number later (kept_by_key key number value kept)).pairs
          ≡ keys_under later (recent_after capacity recent (record { number = number; key = Some key; may_keep = is_some value }))
      go later true same is =
          rw (is, same)
          (kept_keys key number kept value (has_key key (keys_of (at_number number kept).pairs)) refl
          ∙ ap (λ (n : ℕ). keys_after n key (is_some value) (keys_of (at_number number kept).pairs)) k.room
          ∙ ap (λ (keys : List Key). keys_after capacity key (is_some value) keys) (k.keys number h))
      go later false same is = rw (is, same) refl

  finds_recent : (key : Option Key) (number : ℕ) (kept : Kept V) → KeepsRecent capacity recent kept → IsNoneBefore recent.number number
      → finds key number kept ≡ is_hit key (keys_under number recent)
  finds_recent None number kept k h = refl
  finds_recent (Some key) number kept k h = finds_key key number kept ∙ ap (λ (keys : List Key). has_key key keys) (k.keys number h)

-- ---- lists of packets

number_behind : (capacity : ℕ) (recent : Recent) (visit : Visit) (visits : List Visit) → (recent_from capacity recent (visit ∷ visits)).number ≡ last_number (visit ∷ visits)
number_behind capacity recent visit [] = refl
number_behind capacity recent visit (next ∷ visits) = number_behind capacity (recent_after capacity recent visit) next visits

-- the recent keys are under the last packet's edition
recent_number : (capacity : ℕ) (visits : List Visit) → (recent_of capacity visits).number ≡ last_number visits
recent_number capacity [] = refl
recent_number capacity (visit ∷ visits) = number_behind capacity no_recent visit visits

recent_behind : (capacity : ℕ) (recent : Recent) (visits : List Visit) (visit : Visit) → recent_from capacity recent (visits ++ visit ∷ []) ≡ recent_after capacity (recent_from capacity recent visits) visit
recent_behind capacity recent [] visit = refl
recent_behind capacity recent (first ∷ visits) visit = recent_behind capacity (recent_after capacity recent first) visits visit

counted_on : (hit : Bool) (hits : ℕ) → hits_after hit (min hits (2 ^ 64 - 1)) ≡ min (if hit then hits + 1 else hits) (2 ^ 64 - 1)
counted_on true hits = grind arith
counted_on false hits = refl

-- a lane's cache behind one packet more
pub has_recent_behind : (capacity : ℕ) (visits : List Visit) (visit : Visit) (hit : Bool) (old new : LaneCacheValue) → IsVisited visit hit old.kept new.kept → new.hits ≡ hits_after hit old.hits
    → IsNoneBefore (last_number visits) visit.number → HasRecent capacity visits old → HasRecent capacity (visits ++ visit ∷ []) new
has_recent_behind capacity visits visit hit old new visited counted later has =
    let recent = recent_of capacity visits in
    let h : IsNoneBefore recent.number visit.number = rw (recent_number capacity visits) later in
    let value = visited.value in
    let kept : KeepsRecent capacity (recent_after capacity recent visit) new.kept =
    rw (visited.now, ← visited.fits) (keeps_behind capacity recent visit.key visit.number value old.kept has.kept h) in
    let found : hit ≡ is_hit visit.key (keys_under visit.number recent) = visited.hit ∙ finds_recent capacity recent visit.key visit.number old.kept has.kept h in
    let hits : new.hits ≡ min (recent_after capacity recent visit).hits (2 ^ 64 - 1) =
    counted ∙ ap (λ (n : ℕ). hits_after hit n) has.hits ∙ counted_on hit recent.hits
    ∙ ap (λ (b : Bool). min (if b then recent.hits + 1 else recent.hits) (2 ^ 64 - 1)) found in
    let behind = recent_behind capacity no_recent visits visit in
    record {
      kept = rw behind kept;
      hits = hits ∙ ap (λ (r : Recent). min r.hits (2 ^ 64 - 1)) (sym behind);
    }

-- a lane's cache at the start
pub has_recent_open : (capacity : ℕ) → HasRecent capacity [] (empty_lane_cache capacity)
has_recent_open capacity = record {
  kept = record { room = refl; given = λ number h. tt; keys = λ number h. refl };
  hits = refl;
}
