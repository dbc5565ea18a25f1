use Rattle.std.proofs.Common.{map}
use Rattle.std.proofs.lemmas.Result.{IfOk-weaker}
use Rattle.command_words.specs.Invocation.{capture_names}
use Rattle.replay_setup.proofs.MadeReady.{behind_script}
use Rattle.replay_setup.proofs.ready.make_ready.Goals as goal

pub returns-in-Read : goal.returns-in-Read
returns-in-Read g c =
    let reads = rw c.in_ok-name.ensures at (rw c.in-Read.is at c.in_ok-read_named.ensures) in
    let comes = rw c.deref.ensures.value at c.open_behind.ensures in
    IfOk-weaker c.open_behind.result _ _ (λ r come.
    behind_script (record { pairs = g.L.Library.pairs; faults = g.L.Library.faults; refused = g.L.Library.refused; left = g.L.Reader.Source.left; failures = g.L.Reader.Source.faults }) c.args.mode c.args.script.now (map capture_names c.args.captures.now)
    _ _ _ _ _ r reads come) comes
