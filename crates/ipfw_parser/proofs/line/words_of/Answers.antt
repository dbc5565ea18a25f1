use Rattle.ipfw_parser.proofs.Steps.Spans.{words_within}
use Rattle.ipfw_parser.proofs.line.words_of.Goals as goal

pub invariant_of-result : goal.invariant_of-result
invariant_of-result c = record { short = c.requires.short; within = words_within _ _ c.requires.tokens }
