-- A sink behind a buffer, as contracts see it.
use Rattle.std.specs.Prelude.{◌≡◌, ℕ, nat_le, if◌then◌else◌, List, [], ◌∷◌, ◌++◌, length, Option, Some, None}
use Rattle.std.specs.Io.KnownBytes.{Appends}
use Rattle.fw_base.specs.Texts.{SinkState}

-- the sink, the bytes that it hasn't been given yet, and the sink as it was at first
pub record PieceText (K : Type 0) : Type 0 where
  pub sink : K
  pub pending : List ℕ
  pub begun : K

-- the bytes, where they are known
abbrev pub known_bytes : Option (List ℕ) → List ℕ
known_bytes None = []
known_bytes (Some bytes) = bytes

-- what the sink has and then what is buffered; nothing is known of a sink that has fewer bytes than at first
abbrev pub text_behind : ℕ → Option (List ℕ) → List ℕ → Option (List ℕ)
text_behind first None pending = None
text_behind first (Some bytes) pending = if nat_le first (length bytes) then Some (bytes ++ pending) else None

module _ {K : Type 0} (state : K → SinkState) where
  -- the bytes that the sink had at first
  abbrev pub first_bytes : PieceText K → List ℕ
  first_bytes p = known_bytes (state p.begun).written

  -- It is made with the bytes that its sink had at first, and its faults are the sink's.
  abbrev pub state_of : PieceText K → SinkState
  state_of p = record {
    written = text_behind (length (first_bytes p)) (state p.sink).written p.pending;
    made_with = first_bytes p ∷ (state p.sink).made_with;
    faults = (state p.sink).faults;
  }

  -- a front of what was buffered was handed on
  pub record HandsOn (old new : PieceText K) : Type 0 where
    pub taken : List ℕ
    pub front : old.pending ≡ taken ++ new.pending
    pub appended : Appends (state old.sink).written (state new.sink).written taken
    pub begun_kept : new.begun ≡ old.begun
    pub made_kept : (state new.sink).made_with ≡ (state old.sink).made_with
