-- Answers one after another, each of which fits or doesn't.
use Rattle.std.proofs.Common.{◌≡◌, ℕ, suc, ◌+◌, ◌-◌, ◌<◌, ◌≤◌, Option, Some, None, List, true, false, refl, sym, ap, ◌∙◌, arith}
use Rattle.std.specs.Prelude.{Ok, Err}
use Rattle.report_values.specs.Lines.{ReadsTo}
use Rattle.report_values.specs.Sections.{Lines, ReadsAnswer, answer, answers, behind_answer}
use Rattle.report_values.specs.declared.unfit.Unfit.{Unfit}
use Rattle.report_values.specs.declared.unfit.Unfit.TheVariants.{At, OutOfMemory}

-- an answer, or none, at the front of so many
next_answer : (most left : ℕ) (text : List ℕ) (found : Option Lines) → most ≡ suc left → answer text ≡ found
    → answers most text ≡ behind_answer (answers left) text found
unfolding answers
next_answer most left text found more is = rw (more, is) refl

no_answer : (most : ℕ) (text : List ℕ) → most ≡ 0 → answers most text ≡ Ok text
unfolding answers
no_answer most text none = rw none refl

module _ (done most : ℕ) (text rest : List ℕ) (whole : Lines) where
  -- an answer more was read
  pub answer_more : done < most → answers (most - done) text ≡ whole → ReadsAnswer (answer text) text rest (Ok true)
      → answers (most - (done + 1)) rest ≡ whole
  answer_more less so_far is =
      let more : most - done ≡ suc (most - (done + 1)) = omega arith in
      sym (next_answer (most - done) (most - (done + 1)) text (Some (Ok rest)) more is) ∙ so_far

  -- no answer is left
  pub answers_end : done < most → answers (most - done) text ≡ whole → ReadsAnswer (answer text) text rest (Ok false) → whole ≡ Ok rest
  answers_end less so_far is =
      let more : most - done ≡ suc (most - (done + 1)) = omega arith in
      sym so_far ∙ next_answer (most - done) (most - (done + 1)) text None more is.0 ∙ ap Ok (sym is.1)

  -- an answer isn't read, which is the first that isn't
  pub answer_lacks : (C : Type 0) (last : List ℕ) (error : Unfit) → done < most → answers (most - done) text ≡ whole
      → ReadsAnswer (answer text) text rest (Err error) → ReadsTo {A = C} whole last (Err error)
  answer_lacks C last (At from) less so_far is =
      let more : most - done ≡ suc (most - (done + 1)) = omega arith in
      sym so_far ∙ next_answer (most - done) (most - (done + 1)) text (Some (Err from.now)) more is
  answer_lacks C last OutOfMemory less so_far is = tt

  -- as many were read as there may be
  pub answers_spent : most ≤ done → answers (most - done) text ≡ whole → whole ≡ Ok text
  answers_spent spent so_far =
      let none : most - done ≡ 0 = omega arith in
      sym so_far ∙ no_answer (most - done) text none
