use Rattle.std.proofs.lemmas.Result.{IfOk-weaker}
use Rattle.replay_driver.proofs.ReadyReports.{reports_ready, is_writable}
use Rattle.replay_driver.proofs.files_replay.replay_ready.Goals as goal

pub returns-clause-writable : goal.returns-clause-writable
returns-clause-writable g c =
    IfOk-weaker c.report_replayed.result _ _ (λ found both. is_writable c.in_ok-replayed.replayed c.args.manner.journal found both.0 c.in_ok-replayed.ensures.reportable) c.report_replayed.ensures

pub returns-clause-reports : goal.returns-clause-reports
returns-clause-reports g c =
    IfOk-weaker c.report_replayed.result _ _ (λ found both. reports_ready g.S.Source.left g.S.Source.faults c.args.manner c.args.ready c.in_ok-replayed.replayed found both c.in_ok-replayed.ensures.replays) c.report_replayed.ensures
