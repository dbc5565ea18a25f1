-- A text line by line, and which line of it is the first that doesn't fit.
use Rattle.std.specs.Prelude.{◌≡◌, ⊤, ℕ, zero, suc, ◌+◌, ◌-◌, ◌==◌, Bool, Option, Some, None, Result, Ok, Err, List, take, drop, position}
use Rattle.std.specs.List.{count_by}
use Rattle.report_reading.specs.Parts.{behind}
use Rattle.fw_base.specs.Chain as steps
use Rattle.report_values.specs.declared.unfit.Unfit.{Unfit}
use Rattle.report_values.specs.declared.unfit.Unfit.TheVariants.{At, OutOfMemory}

-- the byte 10, which ends a line
abbrev pub is_end : ℕ → Bool
is_end byte = byte == 10

-- the first line, without its end, and the text behind it
unfoldable pub first_line : List ℕ → Option (List ℕ × List ℕ)
first_line text = steps.◌>>=◌ (position is_end text) (λ at. Some (take at text, drop (at + 1) text))

-- the first line with the byte 10 that ends it, and the text behind it
unfoldable pub whole_line : List ℕ → Option (List ℕ × List ℕ)
whole_line text = steps.◌>>=◌ (position is_end text) (λ at. Some (take (at + 1) text, drop (at + 1) text))

-- what stands behind a word in the first line, and the text behind that line
unfoldable pub told_at : List ℕ → List ℕ → Option (List ℕ × List ℕ)
told_at word text = steps.◌>>=◌ (first_line text) (λ line. steps.◌>>=◌ (behind word line.0) (λ told. Some (told, line.1)))

-- the number of the line with which this rest of a text begins, from 1
unfoldable pub line_number : List ℕ → List ℕ → ℕ
line_number text rest = count_by is_end text - count_by is_end rest + 1

-- what lines tell and the text behind them, or the text from the first line that doesn't fit
abbrev pub Fit : Type 0 → Type 0
Fit A = Result (A × List ℕ) (List ℕ)

infixl 10 ◌>>=◌
-- the lines behind, where those before fit
abbrev pub ◌>>=◌ : {A B : Type 0} → Result A (List ℕ) → (A → Result B (List ℕ)) → Result B (List ℕ)
Ok value >>= f = f value
Err at >>= f = Err at

-- what was found, or that this line doesn't fit
abbrev pub or_at : {A : Type 0} → List ℕ → Option A → Result A (List ℕ)
or_at text None = Err text
or_at text (Some value) = Ok value

-- a line that begins with this word, and behind it is read so
unfoldable pub line_of : {A : Type 0} → (List ℕ → Option A) → List ℕ → List ℕ → Fit A
line_of reads word text =
    or_at text (steps.◌>>=◌ (told_at word text) (λ line. steps.◌>>=◌ (reads line.0) (λ value. Some (value, line.1))))

-- so many lines that begin with this word, of which each is read so by its number, from this one on
unfoldable pub lines_of : {A : Type 0} → (ℕ → List ℕ → Option A) → List ℕ → ℕ → ℕ → List ℕ → Result (List ℕ) (List ℕ)
lines_of reads word number zero text = Ok text
lines_of reads word number (suc count) text = line_of (reads number) word text >>= λ line. lines_of reads word (number + 1) count line.1

-- a line of any text
abbrev pub any : ℕ → List ℕ → Option (List ℕ)
any number text = Some text

-- Lines are read to this rest, or the first that doesn't fit is told; want of memory needs no cause.
abbrev pub ReadsTo : {A : Type 0} → Result (List ℕ) (List ℕ) → List ℕ → Result A Unfit → Type 0
ReadsTo fit rest (Ok value) = fit ≡ Ok rest
ReadsTo fit rest (Err (At from)) = fit ≡ Err from.now
ReadsTo fit rest (Err OutOfMemory) = ⊤

-- And they tell a value.
abbrev pub Reads : {A B : Type 0} → (A → B) → Fit B → List ℕ → Result A Unfit → Type 0
Reads view fit rest (Ok value) = fit ≡ Ok (view value, rest)
Reads view fit rest (Err (At from)) = fit ≡ Err from.now
Reads view fit rest (Err OutOfMemory) = ⊤
