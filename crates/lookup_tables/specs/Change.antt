-- What becomes of the pieces of a prefix that is put in or taken out.
use Rattle.std.specs.Prelude.{◌≡◌, ℕ, ◌<◌, ◌≤◌, nat_lt, nat_eq, Bool, ◌&&◌, if◌then◌else◌, Option, Some, None, List, length}
use Rattle.fw_base.specs.Prefix.{Network}
use Rattle.lookup_tables.specs.declared.change.Change.{Change}
use Rattle.lookup_tables.specs.declared.change.Change.TheVariants.{Put, Take}
use Rattle.lookup_tables.specs.declared.piece.Piece.{Piece}
use Rattle.lookup_tables.specs.Piece.{decider}
use Rattle.lookup_tables.specs.Pieces.{piece_at, first_of}

-- both are the same prefix
abbrev pub is_prefix : Network → Network → Bool
is_prefix n m = nat_eq n.address m.address && nat_eq n.bits m.bits

-- what decides afterwards, by what did before: a prefix that is put in, where no longer one did; where
-- the one that is taken out did, the next shorter one
abbrev pub decider_after_change : Change → Option (Network × ℕ) → Option (Network × ℕ)
decider_after_change (Put prefix value) None = Some (prefix, value)
decider_after_change (Put prefix value) (Some before) = if nat_lt before.0.bits prefix.bits then Some (prefix, value) else Some before
decider_after_change (Take prefix next) None = None
decider_after_change (Take prefix next) (Some before) = if is_prefix prefix before.0 then next else Some before

-- the pieces from one place to before another are changed, and all begin where they did
pub record AreChanged (change : Change) (old new : List Piece) (start end : ℕ) : Type 0 where
  pub many : length new ≡ length old
  pub firsts : (place : ℕ) → first_of new place ≡ first_of old place
  pub inside : (place : ℕ) → start ≤ place → place < end → decider (piece_at new place) ≡ decider_after_change change (decider (piece_at old place))
  pub before : (place : ℕ) → place < start → decider (piece_at new place) ≡ decider (piece_at old place)
  pub behind : (place : ℕ) → end ≤ place → decider (piece_at new place) ≡ decider (piece_at old place)
