use Rattle.std.proofs.Common.{refl}
use Rattle.rule_gates.proofs.Admitted.{open_admits}
use Rattle.rule_gates.proofs.gate_making.open.Goals as goal

pub returns-clause-opens : goal.returns-clause-opens
returns-clause-opens c = open_admits _ c.every-every.result c.every-every.ensures.low c.every-every.ensures.span refl refl refl refl refl refl
