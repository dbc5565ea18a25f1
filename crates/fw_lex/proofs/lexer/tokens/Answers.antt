use Rattle.fw_lex.proofs.Longest.{words_are_longest}
use Rattle.fw_lex.proofs.lexer.tokens.Goals as goal

pub returns-in-Ok-clause-longest : goal.returns-in-Ok-clause-longest
returns-in-Ok-clause-longest c = rw (c.in-Ok.ensures, c.before_comment-part.ensures.part) (words_are_longest _)
