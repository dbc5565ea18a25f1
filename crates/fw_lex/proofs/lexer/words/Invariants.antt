use Rattle.std.proofs.Common.{◌≡◌, ◌++◌, drop, None}
use Rattle.fw_lex.specs.Words.{tokens_from}
use Rattle.fw_lex.proofs.lexer.words.Given as goal

abbrev pub invariant-loop-at : goal.invariant-loop-at
invariant-loop-at l = l.found.items ++ tokens_from l.begun l.at (drop l.at l.part) ≡ tokens_from None 0 l.part
