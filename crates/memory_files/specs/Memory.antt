-- Sources, sinks and libraries over memory, as contracts see them.
use Rattle.std.specs.Prelude.{◌≡◌, ℕ, ◌+◌, ◌-◌, ◌%◌, ◌<◌, min, max, List, [], ◌∷◌, ◌++◌, length, take, drop, map, slice_index, Option, None, Some, Bool, true, false, nat_eq, ◌⊎◌, IsSomeAnd, slice_index_or, remove}
use Rattle.std.specs.Option.{option_map}
use Rattle.std.specs.List.{list_any}
use Rattle.std.specs.Cmp.Lexicographic.{pointwise}
use Rattle.fw_base.specs.Faults.{one_more}
use Rattle.fw_base.specs.Pairs.{Pair, take_first}

-- a source over memory
pub record MemoryBytes : Type 0 where
  -- the bytes that it still has
  pub left : List ℕ
  -- the sizes of its pieces, taken in a circle, and which of them is next
  pub pieces : List ℕ
  pub turn : ℕ
  -- how many bytes it gives before each call fails, where it is cut
  pub allowed : Option ℕ
  -- how many calls failed
  pub failures : ℕ

-- at most this many of n bytes come in the next call, by the piece whose turn it is: a size of 0 counts as 1
abbrev pub within_piece : List ℕ → ℕ → ℕ → ℕ
within_piece [] turn n = n
within_piece (p ∷ ps) turn n = min n (max 1 (slice_index (p ∷ ps) turn))

-- at most this many of n bytes come before the cut
abbrev pub within_cut : Option ℕ → ℕ → ℕ
within_cut None n = n
within_cut (Some bytes) n = min n bytes

-- how many bytes the next call gives for a buffer of that length
abbrev pub count_given : MemoryBytes → ℕ → ℕ
count_given m room = within_cut m.allowed (within_piece m.pieces m.turn (min room (length m.left)))

-- the place of one of the pieces, where there are any
abbrev pub IsTurnOf : List ℕ → ℕ → Type 0
IsTurnOf pieces turn = 0 < length pieces → turn < length pieces

-- the next piece's place
abbrev pub next_turn : List ℕ → ℕ → ℕ
next_turn [] turn = turn
next_turn (p ∷ ps) turn = (turn + 1) % length (p ∷ ps)

-- the cut is reached: each call fails
abbrev pub IsCut : MemoryBytes → Type 0
IsCut m = m.allowed ≡ Some 0

-- a read gave n bytes
abbrev pub after_given : MemoryBytes → ℕ → MemoryBytes
after_given m n = record m { left = drop n m.left; turn = next_turn m.pieces m.turn; allowed = option_map (λ bytes. bytes - n) m.allowed }

-- a read failed
abbrev pub after_failed : MemoryBytes → MemoryBytes
after_failed m = record m { failures = one_more m.failures }

-- a sink over memory: the bytes that it took, the room that is left, and how many calls failed
pub record MemoryText : Type 0 where
  pub text : List ℕ
  pub room : ℕ
  pub failures : ℕ

-- the sink took the first n of these bytes
abbrev pub after_taken : MemoryText → ℕ → List ℕ → MemoryText
after_taken m n bytes = record m { text = m.text ++ take n bytes; room = m.room - n }

-- the sink had no room for a byte
abbrev pub after_refused : MemoryText → MemoryText
after_refused m = record m { failures = one_more m.failures }

-- a source under a name
abbrev pub NamedSource : Type 0
NamedSource = List ℕ × MemoryBytes

-- a library over memory: its sources, the names that it refuses, how many openings failed, and the last name that failed
pub record MemoryShelf : Type 0 where
  pub sources : List NamedSource
  pub refusing : List (List ℕ)
  pub failures : ℕ
  pub last_refused : Option (List ℕ)

-- no read of the source has failed
abbrev pub IsFresh : NamedSource → Type 0
IsFresh source = source.1.failures ≡ 0

-- the pairs that a library over memory tells
abbrev pub pairs_of : List NamedSource → List Pair
pairs_of = map (λ source. (source.0, source.1.left))

-- the first source of that name that is still there, and the others
abbrev pub take_source : List ℕ → List NamedSource → Option (NamedSource × List NamedSource)
take_source name = take_first (λ source. pointwise nat_eq source.0 name)

-- the name is refused
abbrev pub is_refused_name : List ℕ → List (List ℕ) → Bool
is_refused_name name = list_any (λ other. pointwise nat_eq other name)

-- the first source of the name is the one at this place
abbrev pub IsFirstAt : List ℕ → List NamedSource → ℕ → Type 0
IsFirstAt name sources place = (place < length sources) × ((d : NamedSource) → take_source name sources ≡ Some (slice_index_or sources place d, remove sources place))

-- an opening handed out the first source of the name, which isn't refused
abbrev pub OpensFirst : MemoryShelf → MemoryShelf → List ℕ → MemoryBytes → Type 0
OpensFirst old new name reader = (is_refused_name name old.refusing ≡ false) × IsSomeAnd (take_source name old.sources) (λ found. (reader ≡ found.0.1) × (new ≡ record old { sources = found.1 }))

-- the name is refused, or no source of it is left
abbrev pub IsMissing : MemoryShelf → List ℕ → Type 0
IsMissing shelf name = (is_refused_name name shelf.refusing ≡ true) ⊎ (take_source name shelf.sources ≡ None)

-- an opening failed
abbrev pub RefusesName : MemoryShelf → MemoryShelf → List ℕ → Type 0
RefusesName old new name = IsMissing old name × (new ≡ record old { failures = one_more old.failures; last_refused = Some name })
