-- Lines that the operator of a shared world ran.
use Rattle.std.proofs.Common.{◌≡◌, ℕ, Some, None, Ok, Result, List, [], ◌∷◌, refl, subst, ◌∙◌, inl, inr}
use Rattle.std.specs.Prelude.{◌⊎◌}
use Rattle.capture_tracks.proofs.Operator.{stands-listed, stands-refused, stands-accepted}
use Rattle.capture_tracks.specs.Commands.{Listing, Standing, after_line, after_lines, line_answer, listing_of}
use Rattle.capture_tracks.specs.Operator.{OperatorStandsFor, IsListed}
use Rattle.fw_command.specs.Steps.{all_lines}
use Rattle.fw_command.specs.declared.script.Line.{Line}
use Rattle.fw_command.specs.declared.script.Step.{Step}
use Rattle.fw_command.specs.declared.script.Step.TheVariants.{Run, After}
use Rattle.report_texts.specs.declared.ends.Answer.{Answer}
use Rattle.fw_rule.specs.declared.command.Command.{Command}
use Rattle.fw_world.specs.declared.commit_fault.CommitFault.{CommitFault}
use Rattle.rule_chain.specs.Configuration.{Configuration}
use Rattle.shared_world.specs.Commits.{Commits}
use Rattle.shared_world.specs.Standing.{DeskStandsFor}
use Rattle.live_replay.specs.Operating.{operator_of, KeepsDesk, AnswersLine, Accepts, RefusesLine, RunsLines, lines_of_step}
use Rattle.live_replay.specs.declared.operator.Operator.{Operator}

-- ---- one line

-- an edition was published
pub accepts_command : (old new : Operator) (command : Command) (result : Result ℕ CommitFault) (number : ℕ) → result ≡ Ok number → Commits old.desk new.desk command result → new.answers.items ≡ old.answers.items → Accepts old new command
unfolding DeskStandsFor
accepts_command old new command result number ok commits answers =
    let h = subst (λ (r : Result ℕ CommitFault). Commits old.desk new.desk command r) ok commits in
    record {
      desk = record { world = h.world; lanes = h.lanes };
      adds = record { edition = h.published.edition; next = h.published.next; editions = h.published.editions; answers = answers; accepts = h.accepts };
    }

-- what a line leaves, as lines of which there is one
one_line : (old new : Operator) (line : Line) → KeepsDesk old new
    → ((first : Configuration) (standing : Standing) → OperatorStandsFor first standing (operator_of old) → OperatorStandsFor first (after_line standing line) (operator_of new)) → RunsLines old new (line ∷ [])
unfolding after_lines
one_line old new line desk stands = record { desk = desk; stands = stands }

-- a listing was answered
pub runs_listed : (old new : Operator) (line : Line) (listing : Listing) (answer : Answer) → listing_of line.command ≡ Some listing → IsListed old.desk.editions listing answer → AnswersLine old new (line_answer line.line answer) → RunsLines old new (line ∷ [])
runs_listed old new line listing answer is listed h = one_line old new line h.desk (stands-listed (operator_of old) (operator_of new) line listing answer is listed h.adds)

-- a command was published or refused
pub runs_command : (old new : Operator) (line : Line) → listing_of line.command ≡ None → Accepts old new line.command ⊎ RefusesLine old new line → RunsLines old new (line ∷ [])
runs_command old new line is (inl h) = one_line old new line h.desk (stands-accepted (operator_of old) (operator_of new) line is h.adds)
runs_command old new line is (inr h) = one_line old new line h.desk (stands-refused (operator_of old) (operator_of new) line is h.adds)

-- ---- one line after the other

-- no line ran
pub runs_none : (operator : Operator) → RunsLines operator operator []
unfolding after_lines
runs_none operator = record { desk = record { world = refl; lanes = refl }; stands = λ first standing stands. stands }

-- the lines of a step, and those behind it
pub runs_step : (operator next last : Operator) (step : Step) (behind : List Step) → RunsLines operator next (lines_of_step step) → RunsLines next last (all_lines behind) → RunsLines operator last (all_lines (step ∷ behind))
unfolding after_lines
runs_step operator next last (Run line) behind h more = record {
  desk = record { world = more.desk.world ∙ h.desk.world; lanes = more.desk.lanes ∙ h.desk.lanes };
  stands = λ first standing stands. more.stands first (after_line standing line) (h.stands first standing stands);
}
runs_step operator next last (After count) behind h more = record {
  desk = record { world = more.desk.world ∙ h.desk.world; lanes = more.desk.lanes ∙ h.desk.lanes };
  stands = λ first standing stands. more.stands first standing (h.stands first standing stands);
}
