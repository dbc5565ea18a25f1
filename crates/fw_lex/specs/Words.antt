-- The words of a script line (ipfw(8)): what stands before a comment, which bytes part words, and
-- which spans the words are; then where a scan finds them.
use Rattle.std.specs.Prelude.{◌≡◌, ℕ, ◌+◌, ◌-◌, ◌<◌, ◌≤◌, Bool, true, false, not, ◌&&◌, ◌||◌, ◌==◌, nat_le, if◌then◌else◌, Option, Some, None, List, [], ◌∷◌, length, slice_index, take, unwrap_or, position, ⊤, ◌⊎◌}
use Rattle.std.specs.List.{AllByRecursion}
use Rattle.fw_lex.specs.declared.token.Token.{Token}

-- space, tab and carriage return part words
abbrev pub is_blank : ℕ → Bool
is_blank byte = byte == 32 || byte == 9 || byte == 13

-- a byte that may stand before a comment: 32 to 126, tab, carriage return
abbrev pub is_readable : ℕ → Bool
is_readable byte = (nat_le 32 byte && nat_le byte 126) || byte == 9 || byte == 13

-- the part of a line before the first #
unfoldable pub before_comment : List ℕ → List ℕ
before_comment line = take (unwrap_or (position (λ byte. byte == 35) line) (length line)) line

-- where the first byte stands that may not
unfoldable pub first_bad : List ℕ → Option ℕ
first_bad part = position (λ byte. not (is_readable byte)) part

-- the span is a longest run of bytes that aren't blank
pub record IsLongestRun (part : List ℕ) (token : Token) : Type 0 where
  pub some : token.start < token.end
  pub inside : token.end ≤ length part
  pub solid : (k : ℕ) → token.start ≤ k → k < token.end → is_blank (slice_index part k) ≡ false
  pub first : 0 < token.start → is_blank (slice_index part (token.start - 1)) ≡ true
  pub last : token.end < length part → is_blank (slice_index part token.end) ≡ true

-- each span begins at or behind `from`, and past a byte behind the one before it
abbrev pub AreInOrder : ℕ → List Token → Type 0
AreInOrder from [] = ⊤
AreInOrder from (token ∷ tokens) = (from ≤ token.start) × AreInOrder (token.end + 1) tokens

-- the byte at k is in one of the spans
abbrev pub IsInSome : ℕ → List Token → Type 0
IsInSome k [] = ⊥
IsInSome k (token ∷ tokens) = ((token.start ≤ k) × (k < token.end)) ⊎ IsInSome k tokens

-- the spans are the longest runs, in order, and each byte that isn't blank is in one
pub record AreLongestRuns (part : List ℕ) (tokens : List Token) : Type 0 where
  pub each : AllByRecursion (IsLongestRun part) tokens
  pub in_order : AreInOrder 0 tokens
  pub whole : (k : ℕ) → k < length part → is_blank (slice_index part k) ≡ false → IsInSome k tokens

-- The same words by a scan, as a function: for definitions that go on from a line's words. The law
-- LongestRunsAreScanned says that they are the same.

-- The words from the byte at `at` on, where `begun` says where a word began that is still open.
unfoldable pub tokens_from : Option ℕ → ℕ → List ℕ → List Token
tokens_from None at [] = []
tokens_from (Some start) at [] = record { start = start; end = at } ∷ []
tokens_from None at (byte ∷ bytes) =
    if is_blank byte then tokens_from None (at + 1) bytes else tokens_from (Some at) (at + 1) bytes
tokens_from (Some start) at (byte ∷ bytes) =
    if is_blank byte then record { start = start; end = at } ∷ tokens_from None (at + 1) bytes else tokens_from (Some start) (at + 1) bytes

-- the words of a line's part before the comment, each as the span from its first byte to past its last
unfoldable pub tokens_in : List ℕ → List Token
tokens_in part = tokens_from None 0 part

-- the words of a line
unfoldable pub tokens_of : List ℕ → List Token
tokens_of line = tokens_in (before_comment line)
