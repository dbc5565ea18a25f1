use Rattle.std.proofs.Common.{subst, List}
use Rattle.std.proofs.lemmas.Result.{IfOk-weaker}
use Rattle.command_words.specs.declared.invocation.Mode.TheVariants.{Live}
use Rattle.fw_command.specs.declared.script.Step.{Step}
use Rattle.capture_tracks.specs.Replay.{IsReplay}
use Rattle.replay_driver.proofs.EditionReplay.{answered_before, editions_stay}
use Rattle.replay_setup.proofs.SomeEditions.{some_editions}
use Rattle.replay_driver.proofs.edition_replay.replay_at_once.Goals as goal

pub returns-clause-replays : goal.returns-clause-replays
returns-clause-replays g c =
    let whole = subst (λ (l : List Step). IsReplay g.S.Source.left g.S.Source.faults c.args.first.config l c.args.cache c.args.opened.items c.in_ok-replayed.replayed) c.as_slice.ensures c.in_ok-replayed.ensures in
    IfOk-weaker c.with_answers.result _ _ (λ with is. answered_before _ _ Live c.args.first c.args.cache c.args.opened.items c.in_ok-replayed.replayed with whole tt is) c.with_answers.ensures

pub returns-clause-reportable : goal.returns-clause-reportable
returns-clause-reportable g c =
    let some = some_editions _ _ _ _ c.in_ok-replayed.ensures.legal.editions in
    IfOk-weaker c.with_answers.result _ _ (λ with is. editions_stay c.args.first.answers c.in_ok-replayed.replayed with some is) c.with_answers.ensures
