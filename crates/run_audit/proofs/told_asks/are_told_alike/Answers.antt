use Rattle.std.proofs.Common.{◌∙◌, sym}
use Rattle.run_audit.proofs.Marks.{alike_told, told_alike}
use Rattle.run_audit.proofs.told_asks.are_told_alike.Goals as goal

pub returns-clause-alike : goal.returns-clause-alike
returns-clause-alike c = λ is. alike_told c.args.reply.now c.args.told.now (sym c.are_marked_alike.ensures ∙ is)

pub returns-clause-all : goal.returns-clause-all
returns-clause-all c = λ same. c.are_marked_alike.ensures ∙ told_alike c.args.reply.now c.args.told.now same
