-- The editions that listings show.
use Rattle.std.specs.Prelude.{◌≡◌, ℕ, ◌≤◌, ⊤, Some, List, length, Contains, Option}
use Rattle.std.specs.List.{AllByRecursion}
use Rattle.fw_command.specs.declared.script.Step.{Step}
use Rattle.report_texts.specs.AnswerText.{edition_of}
use Rattle.report_texts.specs.declared.ends.Answer.{Answer}
use Rattle.report_texts.specs.declared.ends.Answer.TheVariants.{Refused, Listed}
use Rattle.fw_world.specs.RecordValue.{RecordValue}
use Rattle.generation_store.specs.Published.{Published}
use Rattle.rule_chain.specs.Configuration.{Configuration}
use Rattle.capture_tracks.specs.Replay.{IsReplay}
use Rattle.capture_tracks.specs.declared.opened.OpenedCapture.{OpenedCapture}
use Rattle.capture_tracks.specs.declared.replayed.Replayed.{Replayed}
use Rattle.state_journal.specs.declared.entry.Entry.TheVariants.{Publish}

-- The journal publishes the edition of this number, and the report shows that edition for it.
pub record IsPublished (r : RecordValue) (number : ℕ) : Type 0 where
  pub first : 1 ≤ number
  pub last : number ≤ length r.editions
  pub published : Contains r.journal.entries (Publish number)
  pub edition : Published
  pub numbered : edition.number ≡ number
  pub shown : edition_of r.editions number ≡ Some edition

-- a listing names an edition that is published; a refusal names none
abbrev pub NamesPublished : RecordValue → Answer → Type 0
NamesPublished r (Refused fault) = ⊤
NamesPublished r (Listed number table) = IsPublished r number

module _ {S : Type 0} (left : S → Option (List ℕ)) (faults : S → ℕ) where
  -- each listing behind `live` names an edition that the replay's journal publishes
  abbrev pub ListingsNamePublishedEditions : Type 0
  ListingsNamePublishedEditions = (config : Configuration) (steps : List Step) (cache : Option ℕ) (captures : List (OpenedCapture S)) (r : Replayed S) → IsReplay left faults config steps cache captures r
      → AllByRecursion (λ answer. NamesPublished r.record answer.answer) r.ends.answers
