-- Reading a source to its end, or to a limit.
use Rattle.std.specs.Prelude.{◌≡◌, ℕ, ◌<◌, ◌≤◌, List, ◌++◌, length, Option}
use Rattle.std.specs.Io.KnownBytes.{Consumes, IsAtEnd, Keeps}
use Rattle.fw_base.specs.Faults.{Rose}
use Rattle.buffered_io.specs.declared.whole_source.ReadError.{ReadError}
use Rattle.buffered_io.specs.declared.whole_source.ReadError.TheVariants.{Failed, OutOfMemory}

-- These bytes were taken: all that were left, or as many as the limit. The source's count of faults stood
-- still: none of its reads failed.
pub record ReadsAll (left leftAfter : Option (List ℕ)) (before now most : ℕ) (bytes : List ℕ) : Type 0 where
  pub taken : Consumes left leftAfter bytes
  pub steady : now ≡ before
  pub within : length bytes ≤ most
  pub end : length bytes < most → IsAtEnd leftAfter

-- the source failed where fewer bytes than the limit were taken; want of memory says nothing
abbrev pub ReadsPart : Option (List ℕ) → Option (List ℕ) → ℕ → ℕ → ℕ → ReadError → Type 0
ReadsPart left leftAfter before now most Failed = Rose before now × (bytes : List ℕ) × Consumes left leftAfter bytes × (length bytes < most)
ReadsPart left leftAfter before now most OutOfMemory = Unit {0}

-- so many bytes, at most the limit, were taken and put behind the old ones; none only at the end
abbrev pub TakesPiece : Option (List ℕ) → Option (List ℕ) → List ℕ → List ℕ → ℕ → ℕ → Type 0
TakesPiece left leftAfter old new count most =
    (got : List ℕ) × Consumes left leftAfter got × (new ≡ old ++ got) × (length got ≡ count) × (count ≤ most) × (count ≡ 0 → IsAtEnd leftAfter)

-- the source failed and gave nothing; want of memory says nothing
abbrev pub TakesNone : Option (List ℕ) → Option (List ℕ) → ℕ → ℕ → ReadError → Type 0
TakesNone left leftAfter before now Failed = Rose before now × Keeps left leftAfter
TakesNone left leftAfter before now OutOfMemory = Unit {0}
