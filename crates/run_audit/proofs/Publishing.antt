-- The editions that lines behind `live` make, and the answers to these lines.
use Rattle.std.proofs.Common.{◌≡◌, ℕ, zero, suc, ◌+◌, ◌<◌, ◌≤◌, Some, None, Ok, Err, List, [], ◌∷◌, ◌++◌, length, drop, get_or, refl, sym, ap, subst, ◌∙◌, inl, inr, arith, drop-cons}
use Rattle.std.specs.Prelude.{◌⊎◌, OnOk, Result, slice_get}
use Rattle.std.proofs.lemmas.List.{drop_all}
use Rattle.capture_tracks.specs.Commands.{Standing, after_line, after_lines, first_standing, listing_of}
use Rattle.capture_tracks.specs.Operator.{OperatorValue, OperatorStandsFor, AddsEdition, AddsRefusal}
use Rattle.capture_tracks.proofs.Operator.{stands-refused, stands-accepted}
use Rattle.fw_command.specs.Steps.{all_lines}
use Rattle.fw_command.specs.declared.script.Line.{Line}
use Rattle.fw_command.specs.declared.script.Step.{Step}
use Rattle.fw_command.specs.declared.script.Step.TheVariants.{Run, After}
use Rattle.fw_rule.specs.declared.command.Command.{Command}
use Rattle.fw_world.specs.Editions.{AreEditions, AreEditionsFrom, IsNextEdition}
use Rattle.fw_world.proofs.Accepting.{accepts_one_more}
use Rattle.generation_store.specs.Published.{Published, IsBuilt}
use Rattle.rule_chain.specs.Configuration.{Configuration}
use Rattle.run_audit.specs.Replaying.{AreNumbered}

-- edition 1 stands for its configuration
pub first_stands : (config : Configuration) (edition : Published) (value : OperatorValue) → IsBuilt 1 config edition → value.editions ≡ edition ∷ [] → value.answers ≡ []
    → OperatorStandsFor config (first_standing config) value
first_stands config edition value built editions answers =
    let alone : OperatorStandsFor config (first_standing config) (record { editions = edition ∷ []; answers = [] }) = record {
      config = (edition, refl, built.configured);
      number = refl;
      accepted = built;
      answers = refl;
    } in
    let same : record { editions = edition ∷ []; answers = [] } ≡ value = λ i. record { editions = (sym editions) i; answers = (sym answers) i } in
    subst (λ (v : OperatorValue). OperatorStandsFor config (first_standing config) v) same alone

-- the next edition was added
pub adds_edition : (old new : OperatorValue) (command : Command) (edition : Published) → IsNextEdition old.editions command edition → new.editions ≡ old.editions ++ edition ∷ [] → new.answers ≡ old.answers
    → AddsEdition old new command
adds_edition old new command edition next editions answers = record {
  edition = edition;
  next = next;
  editions = editions;
  answers = answers;
  accepts = λ first commands stands.
      subst (λ (all : List Published). AreEditions first (commands ++ command ∷ []) all) (sym editions) (accepts_one_more old.editions command edition first commands next stands);
}

-- a line that is no listing was run
pub changed : (old new : OperatorValue) (line : Line) → listing_of line.command ≡ None → AddsEdition old new line.command ⊎ AddsRefusal old new line
    → (first : Configuration) (standing : Standing) → OperatorStandsFor first standing old → OperatorStandsFor first (after_line standing line) new
changed old new line none (inl adds) = stands-accepted old new line none adds
changed old new line none (inr adds) = stands-refused old new line none adds

-- what follows from two facts that hold where a call succeeds
pub ok_both : {T E P Q R : Type 0} (result : Result T E) → (P → Q → R) → OnOk result P → OnOk result Q → OnOk result R
ok_both (Ok value) follows one other = follows one other
ok_both (Err error) follows one other = tt

-- a step's line was run
pub step_ran : (step : Step) (line : Line) (old new : OperatorValue) → step ≡ Run line
    → ((first : Configuration) (standing : Standing) → OperatorStandsFor first standing old → OperatorStandsFor first (after_line standing line) new)
    → (first : Configuration) (standing : Standing) → OperatorStandsFor first standing old → OperatorStandsFor first (after_lines standing (all_lines (step ∷ []))) new
unfolding after_lines
step_ran step line old new is ran first standing stands =
    subst (λ (s : Step). OperatorStandsFor first (after_lines standing (all_lines (s ∷ []))) new) (sym is) (ran first standing stands)

-- a step that waits changes nothing
pub step_waited : (step : Step) (count : ℕ) (value : OperatorValue) → step ≡ After count → (first : Configuration) (standing : Standing) → OperatorStandsFor first standing value
    → OperatorStandsFor first (after_lines standing (all_lines (step ∷ []))) value
unfolding after_lines
step_waited step count value is first standing stands =
    subst (λ (s : Step). OperatorStandsFor first (after_lines standing (all_lines (s ∷ []))) value) (sym is) stands

step_first : (step : Step) (steps : List Step) (standing : Standing) → after_lines (after_lines standing (all_lines (step ∷ []))) (all_lines steps) ≡ after_lines standing (all_lines (step ∷ steps))
unfolding after_lines
step_first (Run line) steps standing = refl
step_first (After count) steps standing = refl

step_at : (steps : List Step) (i : ℕ) (step : Step) → i < length steps → step ≡ get_or steps i step → drop i steps ≡ step ∷ drop (i + 1) steps
step_at steps i step within is =
    let next : i + 1 ≡ suc i = omega arith in
    rw next (drop-cons steps i step within ∙ ap (λ (s : Step). s ∷ drop (suc i) steps) (sym is))

-- the steps behind this one go on from what it came to
pub step_on : (steps : List Step) (i : ℕ) (step : Step) (standing last : Standing) → i < length steps → step ≡ get_or steps i step → after_lines standing (all_lines (drop i steps)) ≡ last
    → after_lines (after_lines standing (all_lines (step ∷ []))) (all_lines (drop (i + 1) steps)) ≡ last
step_on steps i step standing last within is goes =
    step_first step (drop (i + 1) steps) standing ∙ ap (λ (rest : List Step). after_lines standing (all_lines rest)) (sym (step_at steps i step within is)) ∙ goes

-- no step is left
pub steps_over : (steps : List Step) (i : ℕ) (standing : Standing) → length steps ≤ i → standing ≡ after_lines standing (all_lines (drop i steps))
unfolding after_lines
steps_over steps i standing done = ap (λ (rest : List Step). after_lines standing (all_lines rest)) (sym (drop_all i steps done))

-- editions that commands make are numbered by their places
numbered_from : (number : ℕ) (config : Configuration) (commands : List Command) (editions : List Published) → AreEditionsFrom number config commands editions
    → (place : ℕ) (edition : Published) → slice_get editions place ≡ Some edition → edition.number ≡ number + place
numbered_from number config commands [] are place edition found = absurd are
numbered_from number config [] (one ∷ []) are zero edition found =
    let same : one ≡ edition = cc in
    let none : number ≡ number + 0 = omega arith in
    ap (λ (e : Published). e.number) (sym same) ∙ are.numbered ∙ none
numbered_from number config [] (one ∷ []) are (suc place) edition found = absurd (cc)
numbered_from number config [] (one ∷ next ∷ editions) are place edition found = absurd are
numbered_from number config (command ∷ commands) (one ∷ editions) are zero edition found =
    let same : one ≡ edition = cc in
    let none : number ≡ number + 0 = omega arith in
    ap (λ (e : Published). e.number) (sym same) ∙ are.0.numbered ∙ none
numbered_from number config (command ∷ commands) (one ∷ editions) are (suc place) edition found =
    let more = numbered_from (number + 1) are.1 commands editions are.3 place edition found in
    omega (arith, more)

-- so they are, from 1 on
pub are_numbered : (config : Configuration) (commands : List Command) (editions : List Published) → AreEditions config commands editions → AreNumbered editions
are_numbered config commands editions are = λ place edition found.
    let is = numbered_from 1 config commands editions are place edition found in
    omega (arith, is)

-- and there is one
pub some_edition : (config : Configuration) (commands : List Command) (editions : List Published) → AreEditions config commands editions → 1 ≤ length editions
some_edition config commands [] are = absurd are
some_edition config commands (one ∷ editions) are = omega arith
