use Rattle.fw_base.proofs.Texts.{starts}
use Rattle.rule_text.proofs.Runs.{text-joined, text-shortened}
use Rattle.rule_text.proofs.WriteSteps.{finishes}
use Rattle.rule_text.proofs.address6_text.write_groups.Goals as goal

pub returns-then-run-lt2 : goal.returns-then-run-lt2
returns-then-run-lt2 g c = finishes _ (starts _ _) (text-joined _ _ c.longest_run-run.ensures.count c.if-run-lt2.true) c.write_joined.ensures

pub returns-else-run-lt2 : goal.returns-else-run-lt2
returns-else-run-lt2 g c =
    let found = c.longest_run-run.ensures in
    finishes _ (starts _ _) (text-shortened _ c.longest_run-run.result (record { count = found.count; place = found.place; within = found.within }) c.if-run-lt2.false) c.write_shortened.ensures
