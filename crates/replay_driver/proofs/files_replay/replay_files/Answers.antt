use Rattle.std.proofs.Common.{◌∙◌, arith, map}
use Rattle.std.proofs.lemmas.List.{length-map}
use Rattle.std.proofs.lemmas.Result.{IfOk-weaker}
use Rattle.command_words.specs.Invocation.{capture_names}
use Rattle.replay_driver.proofs.ReadyReports.{reported}
use Rattle.replay_driver.proofs.files_replay.replay_files.Goals as goal

pub replay_ready-requires-clause-captures : goal.replay_ready-requires-clause-captures
replay_ready-requires-clause-captures g c within κs =
    let is = rw c.in-Ready.is at c.in_ok-name.ensures in
    let same = is.all ∙ length-map c.args.captures.now capture_names in
    (omega arith, omega arith)

pub returns-in-Ready-clause-finds : goal.returns-in-Ready-clause-finds
returns-in-Ready-clause-finds g c =
    let is = rw c.in-Ready.is at c.in_ok-name.ensures in
    IfOk-weaker c.replay_ready.result _ _ (λ found reports.
    reported (record { pairs = g.L.Library.pairs; faults = g.L.Library.faults; refused = g.L.Library.refused; left = g.L.Reader.Source.left; failures = g.L.Reader.Source.faults }) c.args.manner c.args.script.now (map capture_names c.args.captures.now)
    _ _ c.in-Ready.ready found.result found.sources.items is reports) c.replay_ready.ensures.reports
