use Rattle.ipfw_parser.proofs.Steps.Spans.{skip_within, skip_list}
use Rattle.ipfw_parser.proofs.line.skip.Goals as goal

pub invariant_of-result : goal.invariant_of-result
invariant_of-result c = record { short = c.args.words.short; within = skip_within c.args.count _ _ c.args.words.within }

pub returns : goal.returns
returns c = skip_list c.args.count c.args.words.line.now c.args.words.tokens.now
