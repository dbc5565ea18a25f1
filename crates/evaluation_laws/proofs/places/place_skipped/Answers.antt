use Rattle.std.proofs.Common.{◌+◌, arith}
use Rattle.rule_chain.specs.LastRule.{last_rule}
use Rattle.eval_engine.proofs.Places.{first_within}
use Rattle.evaluation_laws.proofs.Stepping.{skipped}
use Rattle.evaluation_laws.proofs.places.place_skipped.Goals as goal

pub returns-clause-within : goal.returns-clause-within
returns-clause-within c =
    let rules = c.args.question.now.edition.now.config.rules in
    let inside = c.requires.within in
    let low = first_within c.args.number rules in
    rw (c.max.ensures, c.first_from.ensures) (omega arith)

pub returns-clause-there : goal.returns-clause-there
returns-clause-there c =
    let rules = c.args.question.now.edition.now.config.rules in
    let inside = c.requires.within in
    rw (c.max.ensures, c.first_from.ensures) (skipped rules (c.args.place + 1) c.args.number (last_rule 0) c.requires.ordered (omega arith))
