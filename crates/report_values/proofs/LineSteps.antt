-- Lines one after another, each of which fits or doesn't.
use Rattle.std.proofs.Common.{◌≡◌, ℕ, suc, ◌+◌, ◌-◌, ◌<◌, ◌≤◌, Option, List, refl, sym, ◌∙◌, arith}
use Rattle.std.specs.Prelude.{Result, Ok, Err}
use Rattle.report_values.specs.Lines.{line_of, lines_of, Reads, ReadsTo}
use Rattle.report_values.specs.declared.unfit.Unfit.{Unfit}
use Rattle.report_values.specs.declared.unfit.Unfit.TheVariants.{At, OutOfMemory}

module _ {A : Type 0} (reads : ℕ → List ℕ → Option A) (word : List ℕ) (number : ℕ) where
  -- a line that fits is read, and the others are left
  pub next_line : (count left : ℕ) (text rest : List ℕ) (value : A) → count ≡ suc left → line_of (reads number) word text ≡ Ok (value, rest)
      → lines_of reads word number count text ≡ lines_of reads word (number + 1) left rest
  unfolding lines_of
  next_line count left text rest value more is = rw (more, is) refl

  -- a line that doesn't fit ends the reading
  pub unfit_line : (count left : ℕ) (text at : List ℕ) → count ≡ suc left → line_of (reads number) word text ≡ Err at
      → lines_of reads word number count text ≡ Err at
  unfolding lines_of
  unfit_line count left text at more is = rw (more, is) refl

  -- no line is left to be read
  pub no_line : (count : ℕ) (text : List ℕ) → count ≡ 0 → lines_of reads word number count text ≡ Ok text
  unfolding lines_of
  no_line count text none = rw none refl

module _ {A B : Type 0} (reads : ℕ → List ℕ → Option A) (word : List ℕ) (view : B → A) (done count : ℕ) where
  -- a line more was read
  pub line_more : (text rest : List ℕ) (whole : Result (List ℕ) (List ℕ)) (value : B) → done < count
      → lines_of reads word (done + 1) (count - done) text ≡ whole → Reads view (line_of (reads (done + 1)) word text) rest (Ok value)
      → lines_of reads word (done + 1 + 1) (count - (done + 1)) rest ≡ whole
  line_more text rest whole value less so_far is =
      let more : count - done ≡ suc (count - (done + 1)) = omega arith in
      sym (next_line reads word (done + 1) (count - done) (count - (done + 1)) text rest (view value) more is) ∙ so_far

  -- a line isn't read, which is the first that isn't
  pub line_lacks : (C : Type 0) (text rest last : List ℕ) (whole : Result (List ℕ) (List ℕ)) (error : Unfit) → done < count
      → lines_of reads word (done + 1) (count - done) text ≡ whole → Reads view (line_of (reads (done + 1)) word text) rest (Err error)
      → ReadsTo {A = C} whole last (Err error)
  line_lacks C text rest last whole (At from) less so_far is =
      let more : count - done ≡ suc (count - (done + 1)) = omega arith in
      sym so_far ∙ unfit_line reads word (done + 1) (count - done) (count - (done + 1)) text from.now more is
  line_lacks C text rest last whole OutOfMemory less so_far is = tt

  -- all were read
  pub lines_end : (text : List ℕ) (whole : Result (List ℕ) (List ℕ)) → count ≤ done
      → lines_of reads word (done + 1) (count - done) text ≡ whole → whole ≡ Ok text
  lines_end text whole spent so_far =
      let none : count - done ≡ 0 = omega arith in
      sym so_far ∙ no_line reads word (done + 1) (count - done) text none
