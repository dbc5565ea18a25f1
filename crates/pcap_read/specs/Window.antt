-- Bytes that were taken from a source and are not used yet.
use Rattle.std.specs.Prelude.{◌≡◌, ℕ, ◌+◌, ◌<◌, ◌≤◌, List, ◌++◌, length, Option, Bool, Result, MatchBool, MatchResult}
use Rattle.std.specs.Io.KnownBytes.{Keeps, Consumes, IsAtEnd}

-- A buffer of that size, of which a part is in use. The size is that of the longest record, 262,160 bytes
-- with its header, and 131,072 more.
pub record IsWindow (size start end : ℕ) : Type 0 where
  pub ordered : start ≤ end
  pub within : end ≤ size
  pub whole : size ≡ 393232

-- some bytes of the source were put behind those that were held
abbrev pub Grows : Option (List ℕ) → Option (List ℕ) → List ℕ → List ℕ → Type 0
Grows left leftAfter held heldAfter = (got : List ℕ) × (heldAfter ≡ held ++ got) × Consumes left leftAfter got

-- One read: none came only at the source's end, and one that failed changed nothing.
abbrev pub Refills : {E : Type 0} → Option (List ℕ) → Option (List ℕ) → List ℕ → List ℕ → Result ℕ E → Type 0
Refills left leftAfter held heldAfter result = MatchResult result
    (λ n. Grows left leftAfter held heldAfter × (length heldAfter ≡ length held + n) × (n ≡ 0 → IsAtEnd leftAfter))
    (λ _. (heldAfter ≡ held) × Keeps left leftAfter)

-- Reads until enough bytes were there, the source was at its end, or a read failed.
abbrev pub Fills : {E : Type 0} → Option (List ℕ) → Option (List ℕ) → List ℕ → List ℕ → ℕ → Result Bool E → Type 0
Fills left leftAfter held heldAfter wanted result = Grows left leftAfter held heldAfter × MatchResult result
    (λ enough. MatchBool enough (wanted ≤ length heldAfter) ((length heldAfter < wanted) × IsAtEnd leftAfter))
    (λ _. length heldAfter < wanted)
