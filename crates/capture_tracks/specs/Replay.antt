-- A whole replay: captures, commands, and the record that they leave, in whichever order they came.
use Rattle.std.specs.Prelude.{◌≡◌, ℕ, ◌/◌, min, Option, List, length, map}
use Rattle.fw_command.specs.declared.script.Step.{Step}
use Rattle.fw_world.specs.Legal.{IsLegal}
use Rattle.fw_world.specs.RecordedHits.{TellsHits}
use Rattle.rule_chain.specs.Configuration.{Configuration}
use Rattle.capture_tracks.specs.Commands.{lines_outcome}
use Rattle.capture_tracks.specs.Reading.{Track, track_inputs, AllRead}
use Rattle.capture_tracks.specs.declared.opened.OpenedCapture.{OpenedCapture}
use Rattle.capture_tracks.specs.declared.replayed.Replayed.{Replayed}

-- how many records each of so many captures may have: together 33,554,432, and at most 4,194,304
abbrev pub limit_for : ℕ → ℕ
limit_for captures = min 4194304 (33554432 / captures)

-- the captures' sources
abbrev pub sources_of : {S : Type 0} → List (OpenedCapture S) → List S
sources_of = map (λ opened. opened.source)

module _ {S : Type 0} (left : S → Option (List ℕ)) (faults : S → ℕ) where
  -- Each capture was read to the place where its records end; the record is legal for edition 1, for the
  -- commands that were accepted and for the captures' records; its hits are those of these records in caches for
  -- so many verdicts, or there is no cache; the answers are those of the commands.
  pub record IsReplay (config : Configuration) (steps : List Step) (cache : Option ℕ) (captures : List (OpenedCapture S)) (r : Replayed S) : Type 0 where
    pub tracks : List Track
    pub read : AllRead left faults (limit_for (length captures)) captures r.sources.items tracks r.ends.captures
    pub legal : IsLegal config (lines_outcome config steps).accepted (map track_inputs tracks) r.record
    pub hits : TellsHits cache (map track_inputs tracks) r.record
    pub answered : r.ends.answers ≡ (lines_outcome config steps).answers
