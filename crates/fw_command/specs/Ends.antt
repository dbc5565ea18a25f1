-- The end of a command, and words that the productions share.
use Rattle.std.specs.Prelude.{ℕ, Result, Ok, List, [], ◌∷◌}
use Rattle.ipfw_parser.specs.declared.kind.Kind.TheVariants.{ExtraWord}
use Rattle.ipfw_parser.specs.Reading.{Word, Fault, WordReading, fault_at, ◌>>=◌, first}
use Rattle.ipfw_parser.specs.Numbers.{number}

-- nothing stands behind what was read
unfoldable pub result_at_end : {X : Type 0} → X → List Word → Result X Fault
result_at_end x [] = Ok x
result_at_end x (word ∷ words) = fault_at word.column ExtraWord

-- the next word is a number from least to most
unfoldable pub first_number : ℕ → ℕ → ℕ → List Word → WordReading ℕ
first_number least most end words = do
  next ← first end words
  n ← number least most next.0
  Ok (n, next.1)

-- each word up to the line's end, read so; or the first fault
unfoldable pub each_word : {X : Type 0} → (Word → Result X Fault) → List Word → Result (List X) Fault
each_word read [] = Ok []
each_word read (word ∷ words) = do
  x ← read word
  others ← each_word read words
  Ok (x ∷ others)
