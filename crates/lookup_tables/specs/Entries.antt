-- A table as contracts see it: the list of its entries, each a key with its value, in the order of the keys.
use Rattle.std.specs.Prelude.{◌≡◌, ℕ, ◌<◌, ◌≤◌, List, length, slice_index_or, Result, MatchResult, Option, Contains}
use Rattle.std.specs.declared.cmp.Ordering.{Ordering}
use Rattle.std.specs.declared.cmp.Ordering.TheVariants.{Less, Equal, Greater}
use Rattle.std.specs.BTreeMap.{insert_entry, is_at}
use Rattle.std.specs.List.Sorted.{IsStrictlySortedBy}
use Rattle.std.specs.Map.{keys_of, lookup, remove_entry}

-- an entry has this key
abbrev pub HasKey : {K V : Type 0} → List (K × V) → K → Type 0
HasKey entries key = Contains (keys_of entries) key

module _ {K V : Type 0} (cmp : K → K → Ordering) where
  -- each key is below those after it, so no two are the same
  abbrev pub IsInOrder : List (K × V) → Type 0
  IsInOrder entries = IsStrictlySortedBy cmp (keys_of entries)

  -- the value of the key
  abbrev pub value_of : List (K × V) → K → Option V
  value_of entries key = lookup (is_at (cmp key)) entries

  -- the entries with one more, in its place by the order of the keys; a value that the key has is replaced
  abbrev pub with_entry : List (K × V) → K → V → List (K × V)
  with_entry = insert_entry cmp

  -- the entries without that of the key
  abbrev pub without_key : List (K × V) → K → List (K × V)
  without_key entries key = remove_entry (is_at (cmp key)) entries

  -- each key before the place is below this one
  abbrev pub AreLower : List (K × V) → K → ℕ → Type 0
  AreLower entries key place = (k : ℕ) (d : K × V) → k < place → cmp (slice_index_or entries k d).0 key ≡ Less

  -- the entry of the key stands at the place
  pub record IsPlace (entries : List (K × V)) (key : K) (place : ℕ) : Type 0 where
    pub within : place < length entries
    pub lower : AreLower entries key place
    pub equal : (d : K × V) → cmp (slice_index_or entries place d).0 key ≡ Equal

  -- no entry has the key, and one that has it would stand at the place
  pub record IsGap (entries : List (K × V)) (key : K) (place : ℕ) : Type 0 where
    pub within : place ≤ length entries
    pub lower : AreLower entries key place
    pub higher : (d : K × V) → place < length entries → cmp (slice_index_or entries place d).0 key ≡ Greater

  -- where a search for the key ends
  abbrev pub IsPlaceOf : List (K × V) → K → Result ℕ ℕ → Type 0
  IsPlaceOf entries key found = MatchResult found (IsPlace entries key) (IsGap entries key)
