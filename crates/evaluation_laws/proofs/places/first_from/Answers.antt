use Rattle.std.proofs.Common.{ℕ, ap, drop}
use Rattle.eval_engine.proofs.Places.{first_within}
use Rattle.evaluation_laws.proofs.places.first_from.Goals as goal

pub returns-clause-within : goal.returns-clause-within
returns-clause-within c = rw c.first_from.ensures (first_within c.args.number c.args.question.now.edition.now.config.rules)

pub returns-clause-there : goal.returns-clause-there
returns-clause-there c = ap (λ (n : ℕ). drop n c.args.question.now.edition.now.config.rules) c.first_from.ensures
