use Rattle.std.proofs.Common.{◌≡◌, ◌+◌, suc, arith}
use Rattle.eval_engine.proofs.Calls.{innermost_first-length, innermost_first-call}
use Rattle.eval_engine.proofs.callers.Callers.push.Goals as goal

pub returns : goal.returns
returns c =
    let depth = c.args.self.now.depth in
    let size = innermost_first-length c.args.self.now.numbers depth in
    let next : depth + 1 ≡ suc depth = omega arith in
    let h = c.well_formed in
    rw next (innermost_first-call c.args.self.now.numbers depth c.args.number (grind arith))
