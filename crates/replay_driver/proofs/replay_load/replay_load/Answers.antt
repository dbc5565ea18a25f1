use Rattle.std.proofs.Common.{◌≡◌, None, ◌∙◌, ap, subst, List, [], ◌∷◌, ◌++◌, ℕ, Ok}
use Rattle.command_words.specs.declared.invocation.Mode.TheVariants.{Serial}
use Rattle.fw_command.specs.declared.script.Pace.TheVariants as pace
use Rattle.replay_setup.specs.FirstEdition.{first_edition}
use Rattle.replay_driver.specs.Found.{IsReplayBeside, made_capture}
use Rattle.replay_setup.specs.InMemory.{known_left, no_failures}
use Rattle.capture_tracks.specs.declared.opened.OpenedCapture.{OpenedCapture}
use Rattle.replay_driver.proofs.replay_load.replay_load.Goals as goal

pub returns-in-Ok-clause-finds : goal.returns-in-Ok-clause-finds
returns-in-Ok-clause-finds c =
    let n = c.args.records in
    let script = c.deref.ensures.value ∙ c.in_ok-script.ensures.script in
    let opened = c.in_ok-push.ensures.items ∙ ap (λ (l : List (OpenedCapture (List ℕ))). l ++ c.in_ok-open_made.field-0 ∷ []) c.new-opened.ensures.items
    ∙ ap (λ (o : OpenedCapture (List ℕ)). o ∷ []) (c.in_ok-open_made.ensures ∙ ap made_capture c.in_ok-script.ensures.capture) in
    let replayed = c.in_ok-replayed-in-Ok.replayed in
    record {
      sources = replayed.sources.items;
      replay = record {
        edition = c.in-Ok.first;
        first = subst (λ (bytes : List ℕ). first_edition pace.Serial bytes ≡ Ok c.in-Ok.first) script c.in-Ok.ensures.exact;
        beside = subst (λ (os : List (OpenedCapture (List ℕ))). IsReplayBeside known_left no_failures Serial c.in-Ok.first None os replayed.record replayed.ends replayed.sources.items) opened c.in_ok-replayed-in-Ok.ensures.replays;
      };
    }
