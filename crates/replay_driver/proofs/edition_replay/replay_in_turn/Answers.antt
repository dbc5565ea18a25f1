use Rattle.std.proofs.Common.{subst, List}
use Rattle.std.proofs.lemmas.Result.{IfOk-weaker}
use Rattle.command_words.specs.declared.invocation.Mode.TheVariants.{Serial}
use Rattle.fw_command.specs.declared.script.Step.{Step}
use Rattle.serial_replay.specs.Replay.{IsSerialReplay}
use Rattle.replay_driver.proofs.EditionReplay.{answered_before, editions_stay}
use Rattle.replay_setup.proofs.SomeEditions.{some_editions}
use Rattle.replay_driver.proofs.edition_replay.replay_in_turn.Goals as goal

pub returns-clause-replays : goal.returns-clause-replays
returns-clause-replays g c =
    let whole = subst (λ (l : List Step). IsSerialReplay g.S.Source.left g.S.Source.faults c.args.first.config l c.args.cache c.args.opened.items c.in_ok-replayed.replayed) c.as_slice.ensures c.in_ok-replayed.ensures in
    IfOk-weaker c.with_answers.result _ _ (λ with is. answered_before _ _ Serial c.args.first c.args.cache c.args.opened.items c.in_ok-replayed.replayed with whole.replay whole.ordered is) c.with_answers.ensures

pub returns-clause-reportable : goal.returns-clause-reportable
returns-clause-reportable g c =
    let some = some_editions _ _ _ _ c.in_ok-replayed.ensures.replay.legal.editions in
    IfOk-weaker c.with_answers.result _ _ (λ with is. editions_stay c.args.first.answers c.in_ok-replayed.replayed with some is) c.with_answers.ensures
