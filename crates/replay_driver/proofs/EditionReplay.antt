-- What a replay of either mode leaves, with the answers of the listings before `live` before those behind it.
use Rattle.std.proofs.Common.{◌≡◌, ℕ, ◌<◌, List, ◌++◌, Option, length, refl, subst}
use Rattle.std.specs.Prelude.{IfOk, Result}
use Rattle.command_words.specs.declared.invocation.Mode.{Mode}
use Rattle.capture_tracks.specs.Replay.{IsReplay}
use Rattle.report_texts.specs.declared.ends.LineAnswer.{LineAnswer}
use Rattle.capture_tracks.specs.declared.opened.OpenedCapture.{OpenedCapture}
use Rattle.capture_tracks.specs.declared.replayed.Replayed.{Replayed}
use Rattle.replay_driver.specs.EditionReplay.{ReplaysEdition}
use Rattle.replay_driver.specs.Found.{IsOrderedIn}
use Rattle.replay_setup.specs.declared.first_edition.FirstEdition.{FirstEdition}

module _ {S : Type 0} (left : S → Option (List ℕ)) (failures : S → ℕ) where
  -- the answers before `live` stand before the others
  pub answered_before : (m : Mode) (first : FirstEdition) (cache : Option ℕ) (opened : List (OpenedCapture S)) (replayed with : Replayed S)
      → (replay : IsReplay left failures first.config first.live cache opened replayed)
      → IsOrderedIn m first.config first.live cache replay.tracks replayed.record
      → with ≡ record replayed { ends = record replayed.ends { answers = first.answers ++ replayed.ends.answers } }
      → ReplaysEdition left failures m first cache opened with
  answered_before m first cache opened replayed with replay ordered is = rw is (record {
    replayed = replayed;
    replay = replay;
    ordered = ordered;
    recorded = refl;
    captures_ended = refl;
    lines_answered = refl;
    given_back = refl;
  })

  -- What was replayed with a cache is so with the same cache. An answer that goes by this is refused by the equation
  -- alone where a body replays with another.
  pub same_cache : {E : Type 0} (m : Mode) (first : FirstEdition) (opened : List (OpenedCapture S)) (result : Result (Replayed S) E)
      → (told cache : Option ℕ) → told ≡ cache
      → IfOk result (ReplaysEdition left failures m first told opened)
      → IfOk result (ReplaysEdition left failures m first cache opened)
  same_cache m first opened result told cache same is = subst (λ (c : Option ℕ). IfOk result (ReplaysEdition left failures m first c opened)) same is

-- the editions are those that were replayed
pub editions_stay : {S : Type 0} (answers : List LineAnswer) (replayed with : Replayed S) → 0 < length replayed.record.editions
    → with ≡ record replayed { ends = record replayed.ends { answers = answers ++ replayed.ends.answers } } → 0 < length with.record.editions
editions_stay answers replayed with some is = rw is some
