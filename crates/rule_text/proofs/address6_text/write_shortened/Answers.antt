use Rattle.std.proofs.Common.{refl, ◌+◌, ap}
use Rattle.fw_base.proofs.Texts.{starts}
use Rattle.rule_text.specs.Address6Text.{groups_joined}
use Rattle.rule_text.proofs.Runs.{rest_of}
use Rattle.rule_text.proofs.WriteSteps.{goes, breaks_off, finishes}
use Rattle.rule_text.proofs.address6_text.write_shortened.Goals as goal

pub returns-in_err-write_joined : goal.returns-in_err-write_joined
returns-in_err-write_joined g c = breaks_off _ _ _ (starts _ _) refl c.in_err-write_joined.was c.write_joined.ensures c.from_residual.ensures.1

pub returns-in_err-write_text : goal.returns-in_err-write_text
returns-in_err-write_text g c =
    breaks_off _ _ _ (goes _ (starts _ _) refl c.in_ok-write_joined.was c.write_joined.ensures) refl c.in_err-write_text.was c.write_text.ensures c.from_residual-in_err-write_text.ensures.1

pub returns : goal.returns
returns g c =
    finishes _ (goes _ (goes _ (starts _ _) refl c.in_ok-write_joined.was c.write_joined.ensures) refl c.in_ok-write_text.was c.write_text.ensures)
    (ap groups_joined (rest_of c.args.groups.now (c.args.run.place + c.args.run.count))) c.write_joined-2.ensures
