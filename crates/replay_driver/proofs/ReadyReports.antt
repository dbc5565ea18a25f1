-- What was ready, replayed and reported.
use Rattle.std.proofs.Common.{◌≡◌, ℕ, ◌<◌, Bool, List, ◌∷◌, Option, length, refl}
use Rattle.command_words.specs.Words.{CaptureNames}
use Rattle.capture_tracks.specs.declared.replayed.Replayed.{Replayed}
use Rattle.replay_driver.specs.EditionReplay.{ReplaysEdition}
use Rattle.replay_driver.specs.FilesReplay.{ReportsReady}
use Rattle.replay_driver.specs.RunResult.{IsWritable}
use Rattle.replay_driver.specs.declared.run_result.Found.{Found}
use Rattle.replay_driver.specs.Found.{FindsReplay}
use Rattle.replay_setup.specs.Ready.{IsReady}
use Rattle.replay_driver.specs.declared.manner.Manner.{Manner}
use Rattle.replay_setup.specs.declared.ready.Ready.{Ready}
use Rattle.replay_driver.specs.declared.run_result.RunResult.{RunResult}
use Rattle.replay_driver.specs.declared.run_result.RunResult.TheVariants.{Usage, Unread, Unready, Reported, Summed}
use Rattle.replay_setup.specs.Outside.{Files}

-- a report of what has an edition can be written
pub is_writable : {S : Type 0} (replayed : Replayed S) (journal : Bool) (found : Found S) → found.result ≡ Reported replayed.record replayed.ends journal → 0 < length replayed.record.editions → IsWritable found.result
is_writable replayed journal found is some = rw is some

-- the report of what was replayed
pub reports_ready : {S : Type 0} (left : S → Option (List ℕ)) (failures : S → ℕ) (manner : Manner) (ready : Ready S) (replayed : Replayed S) (found : Found S)
    → (found.result ≡ Reported replayed.record replayed.ends manner.journal) × (found.sources.items ≡ ready.script ∷ replayed.sources.items)
    → ReplaysEdition left failures manner.mode ready.first manner.cache ready.captures.items replayed
    → ReportsReady left failures manner ready found.result found.sources.items
reports_ready left failures manner ready replayed found both beside = rw both.0 (refl, replayed.sources.items, both.1, beside)

module _ {L S : Type 0} (files : Files L S) where
  -- what was ready, and its report
  pub reported : (manner : Manner) (name : List ℕ) (captures : List CaptureNames) (old new : L) (ready : Ready S) (result : RunResult) (sources : List S)
      → IsReady files manner.mode name captures old new ready
      → ReportsReady files.left files.failures manner ready result sources
      → FindsReplay files (record { mode = manner.mode; journal = manner.journal; cache = manner.cache; script = name; captures = captures }) old new result sources
  reported manner name captures old new ready Usage sources is none = absurd none
  reported manner name captures old new ready (Unread refused) sources is none = absurd none
  reported manner name captures old new ready (Unready error) sources is none = absurd none
  reported manner name captures old new ready (Reported kept ends journal) sources is (same, given, back, beside) = (
    same,
    record {
      script = ready.script;
      bytes = is.bytes;
      opened = ready.captures.items;
      reads = is.reads;
      captures = given;
      replay = record { edition = ready.first; first = is.first; beside = beside };
      given_back = back;
    },
  )
  reported manner name captures old new ready (Summed kept ends) sources is none = absurd none
