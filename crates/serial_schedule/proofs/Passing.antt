-- The steps that are passed over where the next line is sought.
use Rattle.std.proofs.Common.{◌≡◌, ℕ, ◌≤◌, true, cond, nat_le, List, [], ◌∷◌, ◌++◌, sym, ap, ◌∙◌, append_assoc, arith}
use Rattle.std.proofs.lemmas.Bool.Decides.{nat_tests}
use Rattle.fw_command.specs.declared.script.Step.{Step}
use Rattle.fw_command.specs.declared.script.Step.TheVariants.{After}
use Rattle.serial_schedule.specs.Agenda.{due_lines, waiting_steps, AreLast}
use Rattle.fw_command.specs.Steps.{all_lines}

-- No line stands among the steps that were passed over, and none of them waits.
pub record Passes (taken : ℕ) (old new : List Step) : Type 0 where
  pub due : due_lines taken old ≡ due_lines taken new
  pub waiting : waiting_steps taken old ≡ waiting_steps taken new
  pub all : all_lines old ≡ all_lines new
  pub last : AreLast new old

-- no line stands among the steps that were passed over
pub record PassesAll (old new : List Step) : Type 0 where
  pub all : all_lines old ≡ all_lines new
  pub last : AreLast new old

last-behind : (old : List Step) (step : Step) (rest : List Step) → AreLast (step ∷ rest) old → AreLast rest old
last-behind old step rest (passed, is) = (passed ++ step ∷ [], is ∙ sym (append_assoc passed (step ∷ []) rest))

-- a step that no longer waits is passed over
pub passes-after : (taken : ℕ) (old : List Step) (count : ℕ) (rest : List Step) → Passes taken old (After count ∷ rest) → count ≤ taken → Passes taken old rest
passes-after taken old count rest h most =
    let low : nat_le count taken ≡ true = grind (arith, nat_tests) in
    record {
      due = h.due ∙ ap (λ b. cond b (due_lines taken rest) []) low;
      waiting = h.waiting ∙ ap (λ b. cond b (waiting_steps taken rest) (After count ∷ rest)) low;
      all = h.all;
      last = last-behind old (After count) rest h.last;
    }

-- nor is one that waits, where all are run
pub passes_all-after : (old : List Step) (count : ℕ) (rest : List Step) → PassesAll old (After count ∷ rest) → PassesAll old rest
passes_all-after old count rest h = record { all = h.all; last = last-behind old (After count) rest h.last }
