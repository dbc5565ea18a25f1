use Rattle.std.proofs.Common.{arith}
use Rattle.rule_edits.proofs.Kept.{mask_kept}
use Rattle.rule_edits.proofs.edited.Edited.set_mask.Goals as goal

pub invariant_of-self : goal.invariant_of-self
invariant_of-self c = mask_kept _ c.args.disable c.args.enable (omega (arith, c.if-disable-ne0.false)) c.self.invariant
