-- Reading words from left to right: a value and the words behind it, or the first fault.
use Rattle.std.specs.Prelude.{◌≡◌, ℕ, ◌+◌, ◌-◌, ◌<◌, ◌≤◌, Bool, true, false, if◌then◌else◌, Result, Ok, Err, Option, Some, None, List, [], ◌∷◌, length, slice_index_or, take, drop, nat_eq, codes, ⊤}
use Rattle.std.specs.Cmp.Lexicographic.{pointwise}
use Rattle.fw_lex.specs.declared.token.Token.{Token}
use Rattle.ipfw_parser.specs.declared.kind.Kind.{Kind}
use Rattle.ipfw_parser.specs.declared.kind.Kind.TheVariants.{MissingWord, UnknownWord}
use Rattle.ipfw_parser.specs.declared.parse_fault.ParseFault.{ParseFault}
use Rattle.ipfw_parser.specs.declared.parse_fault.ParseFault.TheVariants.{At, OutOfMemory}

-- a word, and the column where it begins, from 1; of an element of a list the column of the whole word
pub record Word : Type 0 where
  pub column : ℕ
  pub text : List ℕ

-- what is wrong, and in which column
pub record Fault : Type 0 where
  pub column : ℕ
  pub kind : Kind

-- the fault of that kind in that column
abbrev pub fault_at : {X : Type 0} → ℕ → Kind → Result X Fault
fault_at column kind = Err (record { column = column; kind = kind })

infixl 10 ◌>>=◌
-- the second step on what the first read, or the first fault
abbrev pub ◌>>=◌ : {X Y : Type 0} → Result X Fault → (X → Result Y Fault) → Result Y Fault
(Ok x) >>= f = f x
(Err e) >>= f = Err e

-- a value, and the words that are left
abbrev pub WordReading : Type 0 → Type 0
WordReading X = Result (X × List Word) Fault

-- What a call answered is what reading gives, unless memory ran out.
abbrev pub Fails : {Y : Type 0} → ParseFault → Result Y Fault → Type 0
Fails OutOfMemory reading = Unit {0}
Fails (At column kind) reading = reading ≡ fault_at column kind

-- a value is what reading gives; an error is its fault, or want of memory
abbrev pub ReadsAs : {X Y : Type 0} → (X → Y) → Result X ParseFault → Result Y Fault → Type 0
ReadsAs view (Ok x) reading = reading ≡ Ok (view x)
ReadsAs view (Err e) reading = Fails e reading

-- a call that takes no memory doesn't answer that there was none
abbrev pub NeedsNoMemory : {X : Type 0} → Result X ParseFault → Type 0
NeedsNoMemory (Ok x) = ⊤
NeedsNoMemory (Err (At column kind)) = ⊤
NeedsNoMemory (Err OutOfMemory) = ⊥

-- the word of a line that a token spans
abbrev pub word_at : List ℕ → Token → Word
word_at line token = record { column = token.start + 1; text = take (token.end - token.start) (drop token.start line) }

-- the token lies in the line
pub record HoldsToken (line : List ℕ) (token : Token) : Type 0 where
  pub some : token.start < token.end
  pub inside : token.end ≤ length line

-- the tokens lie in the line
abbrev pub HoldsTokens : List ℕ → List Token → Type 0
HoldsTokens line tokens = (k : ℕ) → (d : Token) → k < length tokens → HoldsToken line (slice_index_or tokens k d)

-- the text is this word
unfoldable pub same : List ℕ → List ℕ → Bool
same text word = pointwise nat_eq text word

-- the next word; end is the column one past the line's last word
unfoldable pub first : ℕ → List Word → WordReading Word
first end [] = fault_at end MissingWord
first end (word ∷ words) = Ok (word, words)

-- the next word is this one
unfoldable pub words_behind_word : List ℕ → ℕ → List Word → Result (List Word) Fault
words_behind_word name end words = do
  next ← first end words
  if same next.0.text name then Ok next.1 else fault_at next.0.column UnknownWord

-- whether `not` stands before the next words
unfoldable pub negation : ℕ → List Word → WordReading Bool
negation end words = do
  next ← first end words
  if same next.0.text (codes "not") then Ok (true, next.1) else Ok (false, words)

-- the words, where there are any
abbrev pub some_words : List Word → Option (List Word)
some_words [] = None
some_words (word ∷ words) = Some (word ∷ words)
