-- What a cache of verdicts keeps. For the packets of one thread in order it is a list of keys with their
-- values, most recent first, empty at the start and wherever the number of the edition isn't that of the
-- packet before. A key that is in the list comes to the front; another one is put in front, and the last
-- beyond the capacity goes.
use Rattle.std.specs.Prelude.{◌≡◌, ℕ, ◌==◌, Bool, false, if◌then◌else◌, List, [], ◌∷◌, take, Option, Some, None}
use Rattle.std.specs.Map.{lookup}
use Rattle.lru.specs.LruCache.{promoted}
use Rattle.verdict_cache.specs.Key.{same_key}
use Rattle.verdict_cache.specs.declared.key.Key.{Key}

-- The list, for how many pairs there is room, and of which edition they are.
pub record Kept (V : Type 0) : Type 0 where
  -- how many pairs there may be, at least one
  pub capacity : ℕ
  -- the number that was given last, none before the first one
  pub number : Option ℕ
  -- the most recent first
  pub pairs : List (Key × V)

-- the number is the last one given
abbrev pub is_given : Option ℕ → ℕ → Bool
is_given None number = false
is_given (Some last) number = last == number

module _ {V : Type 0} where
  -- the cache at the start
  abbrev pub empty_cache : ℕ → Kept V
  empty_cache capacity = record { capacity = capacity; number = None; pairs = [] }

  -- the cache when a number is given: emptied where it isn't the last one given
  abbrev pub at_number : ℕ → Kept V → Kept V
  at_number number kept = record {
    capacity = kept.capacity;
    number = Some number;
    pairs = if is_given kept.number number then kept.pairs else [];
  }

  -- what is kept for a key
  abbrev pub kept_value_of : Key → Kept V → Option V
  kept_value_of key kept = lookup (same_key key) kept.pairs

  -- the pair of the key, if there is one, before all others
  abbrev pub with_key_first : Key → Kept V → Kept V
  with_key_first key kept = record {
    capacity = kept.capacity;
    number = kept.number;
    pairs = promoted (same_key key) kept.pairs;
  }

  -- one more pair before all others, of which the last goes beyond the capacity
  abbrev pub with_pair : Key → V → Kept V → Kept V
  with_pair key value kept = record {
    capacity = kept.capacity;
    number = kept.number;
    pairs = take kept.capacity ((key, value) ∷ kept.pairs);
  }

  -- the look before, with this number and this key, found nothing
  pub record WasMissed (number : ℕ) (key : Key) (kept : Kept V) : Type 0 where
    pub given : kept.number ≡ Some number
    pub missing : kept_value_of key kept ≡ None
