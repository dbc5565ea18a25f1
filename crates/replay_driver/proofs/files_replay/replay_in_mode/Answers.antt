use Rattle.command_words.specs.declared.invocation.Mode.TheVariants.{Serial, Live}
use Rattle.replay_driver.proofs.EditionReplay.{same_cache}
use Rattle.replay_driver.proofs.files_replay.replay_in_mode.Goals as goal

pub returns-in-Serial-clause-replays : goal.returns-in-Serial-clause-replays
returns-in-Serial-clause-replays g c = rw c.in-Serial.is
    (same_cache g.S.Source.left g.S.Source.faults Serial c.args.first c.args.opened.items c.replay_in_turn.result _ c.args.manner.cache (cc) c.replay_in_turn.ensures.replays)

pub returns-in-Live-clause-replays : goal.returns-in-Live-clause-replays
returns-in-Live-clause-replays g c = rw c.in-Live.is
    (same_cache g.S.Source.left g.S.Source.faults Live c.args.first c.args.opened.items c.replay_at_once.result _ c.args.manner.cache (cc) c.replay_at_once.ensures.replays)
