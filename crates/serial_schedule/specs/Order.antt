-- The order in which the records of several captures are replayed: at each step, of the captures that still
-- have a record, the one whose next record has the least second, nanosecond and capture number gives it
-- (this project's own).
use Rattle.std.specs.Prelude.{◌≡◌, ℕ, zero, suc, ◌+◌, ◌<◌, Bool, true, false, ◌||◌, ◌&&◌, ◌==◌, nat_lt, if◌then◌else◌, Option, Some, None, List, [], ◌∷◌, length, map, drop, slice_get}
use Rattle.std.specs.Option.{option_map}
use Rattle.pcap_read.specs.Reading.{Captured}
use Rattle.serial_schedule.specs.declared.head.Head.{Head}
use Rattle.serial_schedule.specs.declared.moment.Moment.{Moment}

-- when a record was captured
abbrev pub moment_of : Captured → Moment
moment_of r = record { second = r.second; nanos = r.nanos }

-- the second counts before the fraction
abbrev pub is_before : Moment → Moment → Bool
is_before a b = nat_lt a.second b.second || (a.second == b.second && nat_lt a.nanos b.nanos)

-- the earlier of two, the first where neither is before the other
abbrev pub earlier_head : Option Head → Option Head → Option Head
earlier_head None other = other
earlier_head (Some head) None = Some head
earlier_head (Some head) (Some other) = if is_before other.moment head.moment then Some other else Some head

-- the head of a capture that has a record left
abbrev pub head_at : ℕ → Option Moment → Option Head
head_at capture None = None
head_at capture (Some moment) = Some (record { capture = capture; moment = moment })

-- The first of the next records of the captures from this number on; a capture that has none left is passed
-- over.
unfoldable pub first_head : ℕ → List (Option Moment) → Option Head
first_head capture [] = None
first_head capture (moment ∷ moments) = earlier_head (head_at capture moment) (first_head (capture + 1) moments)

-- the capture that gives the next record
abbrev pub first_capture : List (Option Moment) → Option ℕ
first_capture moments = option_map (λ head. head.capture) (first_head 0 moments)

-- Of the captures that have a record left, this one's is the least by second, nanosecond and capture number:
-- it is before that of each capture of a smaller number, and none of a greater number is before it.
pub record IsLeast (moments : List (Option Moment)) (capture : ℕ) : Type 0 where
  pub moment : Moment
  pub there : slice_get moments capture ≡ Some (Some moment)
  pub smaller : (k : ℕ) (other : Moment) → k < capture → slice_get moments k ≡ Some (Some other) → is_before moment other ≡ true
  pub greater : (k : ℕ) (other : Moment) → capture < k → slice_get moments k ≡ Some (Some other) → is_before other moment ≡ false

-- a record in its turn
pub record Turn : Type 0 where
  pub capture : ℕ
  pub taken : Captured

-- the next record of a capture, if it has one left
abbrev pub next_record_of : List Captured → Option Captured
next_record_of [] = None
next_record_of (r ∷ rest) = Some r

-- when a capture's next record was taken
abbrev pub next_moment : List Captured → Option Moment
next_moment [] = None
next_moment (r ∷ rest) = Some (moment_of r)

-- what is left of the captures when that one has given its next record
abbrev pub without_next : ℕ → List (List Captured) → List (List Captured)
without_next capture [] = []
without_next zero (records ∷ others) = drop 1 records ∷ others
without_next (suc capture) (records ∷ others) = records ∷ without_next capture others

-- the records that are left of a capture
abbrev pub records_at : ℕ → List (List Captured) → List Captured
records_at capture [] = []
records_at zero (records ∷ others) = records
records_at (suc capture) (records ∷ others) = records_at capture others

-- the turn of a capture whose next record this is, and the turns behind it
abbrev pub turn_from : (List (List Captured) → List Turn) → List (List Captured) → ℕ → Option Captured → List Turn
turn_from behind captures capture None = []
turn_from behind captures capture (Some r) = record { capture = capture; taken = r } ∷ behind (without_next capture captures)

-- the turns from that of the capture that comes next, if one does
abbrev pub turns_from : (List (List Captured) → List Turn) → List (List Captured) → Option ℕ → List Turn
turns_from behind captures None = []
turns_from behind captures (Some capture) = turn_from behind captures capture (next_record_of (records_at capture captures))

-- one turn after the other, so many at most
unfoldable pub turns : ℕ → List (List Captured) → List Turn
turns zero captures = []
turns (suc most) captures = turns_from (λ left. turns most left) captures (first_capture (map next_moment captures))

-- how many records the captures have
abbrev pub record_count : List (List Captured) → ℕ
record_count [] = 0
record_count (records ∷ others) = length records + record_count others

-- all records of the captures in their order
abbrev pub in_order : List (List Captured) → List Turn
in_order captures = turns (record_count captures) captures
