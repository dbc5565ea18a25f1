use Rattle.std.proofs.Common.{nat_eq, ap, sym}
use Rattle.eval_engine.proofs.Calls.{innermost_first-length}
use Rattle.eval_engine.proofs.callers.Callers.is_full.Goals as goal

pub returns : goal.returns
returns c = ap (λ n. nat_eq n 16) (sym (innermost_first-length c.args.self.now.numbers c.args.self.now.depth))
