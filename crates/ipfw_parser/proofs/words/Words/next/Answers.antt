use Rattle.std.proofs.Common.{arith}
use Rattle.ipfw_parser.proofs.Steps.Spans.{tail_within, column_fits}
use Rattle.ipfw_parser.proofs.words.Words.next.Goals as goal

pub overflow_add-word : goal.overflow_add-word
overflow_add-word c = omega (arith, column_fits _ _ (record { start = 0; end = 0 }) c.args.self.short c.args.self.within c.in-len1-up.len_at_least)

pub invariant_of-words : goal.invariant_of-words
invariant_of-words c = record { short = c.args.self.short; within = tail_within _ _ c.args.self.within }
