-- The editions that a docket names.
use Rattle.std.specs.Prelude.{◌≡◌, ℕ, ◌<◌, ◌≤◌, Some, List, slice_get}
use Rattle.eval_engine.specs.Dockets.{DocketValue, judged_entry}
use Rattle.eval_engine.specs.declared.judgement.Judgement.{Judgement}
use Rattle.fw_rule.specs.declared.command.Command.{Command}
use Rattle.fw_world.specs.Inputs.{Input}
use Rattle.fw_world.specs.Legal.{IsLegal}
use Rattle.fw_world.specs.RecordValue.{RecordValue}
use Rattle.rule_chain.specs.Configuration.{Configuration}

-- of two judged packets of a docket the later one isn't judged under an earlier edition
abbrev pub NeverFalls : DocketValue → Type 0
NeverFalls docket = (earlier later : ℕ) (a b : Judgement) → earlier < later → slice_get docket.entries earlier ≡ Some (judged_entry a) → slice_get docket.entries later ≡ Some (judged_entry b)
    → a.edition ≤ b.edition

-- editions in a docket of a legal record never fall
abbrev pub EditionsNeverFall : Type 0
EditionsNeverFall = (first : Configuration) (commands : List Command) (inputs : List (List Input)) (r : RecordValue) → IsLegal first commands inputs r
    → (lane : ℕ) (docket : DocketValue) → slice_get r.dockets lane ≡ Some docket → NeverFalls docket
