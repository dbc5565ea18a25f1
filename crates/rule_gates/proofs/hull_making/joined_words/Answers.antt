use Rattle.rule_gates.proofs.Admitted.{every_has}
use Rattle.rule_gates.proofs.hull_making.joined_words.Goals as goal

pub returns-then-one-other-clause-first : goal.returns-then-one-other-clause-first
returns-then-one-other-clause-first c words are has = every_has c.every.result _ c.every.ensures.low c.every.ensures.span (are 0)

pub returns-then-one-other-clause-second : goal.returns-then-one-other-clause-second
returns-then-one-other-clause-second c words are has = every_has c.every.result _ c.every.ensures.low c.every.ensures.span (are 0)
