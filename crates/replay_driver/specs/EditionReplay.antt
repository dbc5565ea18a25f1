-- Captures that were replayed beside an edition 1.
use Rattle.std.specs.Prelude.{ℕ, List, Option}
use Rattle.command_words.specs.declared.invocation.Mode.{Mode}
use Rattle.capture_tracks.specs.declared.opened.OpenedCapture.{OpenedCapture}
use Rattle.capture_tracks.specs.declared.replayed.Replayed.{Replayed}
use Rattle.replay_driver.specs.Found.{IsReplayBeside}
use Rattle.replay_setup.specs.declared.first_edition.FirstEdition.{FirstEdition}

module _ {S : Type 0} (left : S → Option (List ℕ)) (failures : S → ℕ) where
  -- this was replayed in this mode beside the edition and what the script has behind `live`
  abbrev pub ReplaysEdition : Mode → FirstEdition → Option ℕ → List (OpenedCapture S) → Replayed S → Type 0
  ReplaysEdition m first cache opened r = IsReplayBeside left failures m first cache opened r.record r.ends r.sources.items
