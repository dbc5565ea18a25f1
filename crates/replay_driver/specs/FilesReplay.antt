-- A report of what was ready to be replayed.
use Rattle.std.specs.Prelude.{◌≡◌, ℕ, List, ◌∷◌, Option}
use Rattle.replay_driver.specs.Found.{IsReplayBeside}
use Rattle.replay_driver.specs.declared.manner.Manner.{Manner}
use Rattle.replay_setup.specs.declared.ready.Ready.{Ready}
use Rattle.replay_driver.specs.declared.run_result.RunResult.{RunResult}
use Rattle.replay_driver.specs.declared.run_result.RunResult.TheVariants.{Usage, Unread, Unready, Reported, Summed}

module _ {S : Type 0} (left : S → Option (List ℕ)) (failures : S → ℕ) where
  -- its captures were replayed beside its edition in this manner, and this is the report
  abbrev pub ReportsReady : Manner → Ready S → RunResult → List S → Type 0
  ReportsReady manner ready Usage sources = ⊥
  ReportsReady manner ready (Unread name) sources = ⊥
  ReportsReady manner ready (Unready error) sources = ⊥
  ReportsReady manner ready (Reported kept ends journal) sources =
      (journal ≡ manner.journal) × (captures : List S) × (sources ≡ ready.script ∷ captures)
      × IsReplayBeside left failures manner.mode ready.first manner.cache ready.captures.items kept ends captures
  ReportsReady manner ready (Summed kept ends) sources = ⊥
