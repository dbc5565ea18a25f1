use Rattle.eval_engine.specs.declared.judgement.Cause.TheVariants as causes
use Rattle.eval_engine.proofs.Leading.{decided_there}
use Rattle.eval_engine.proofs.walking.decided.Goals as goal

pub returns : goal.returns
returns c = λ searched. decided_there c.args.question.now searched c.args.at.now c.args.rule.now _ c.args.verdict causes.Rule c.requires.there
