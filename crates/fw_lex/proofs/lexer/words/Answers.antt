use Rattle.std.proofs.Common.{arith}
use Rattle.std.proofs.lemmas.Grind.{common_steps}
use Rattle.fw_lex.proofs.Steps.{closed-blank, closed-solid, open-blank, open-solid, end-open, end-closed}
use Rattle.fw_lex.proofs.lexer.words.Goals as goal
use Rattle.fw_lex.proofs.lexer.words.Goals.{in-Some+in_ok-push-in-Some, in-Some+else-is_blank, in-None, in-None+else-not-is_blank, in-Some-begun+in_ok-push, in_default-begun}

pub loop-at-preserved : goal.loop-at-preserved
loop-at-preserved c =
    elim c.match-begun.branch [
      | in-Some+in_ok-push-in-Some w ↦ grind (arith, common_steps, open-blank)
      | in-Some+else-is_blank w ↦ grind (arith, common_steps, open-solid)
      | in-None w ↦ grind (arith, common_steps, closed-solid)
      | in-None+else-not-is_blank w ↦ grind (arith, common_steps, closed-blank)
    ]

pub returns : goal.returns
returns c =
    elim c.match-begun-2.branch [
      | in-Some-begun+in_ok-push w ↦ grind (arith, common_steps, end-open)
      | in_default-begun w ↦ grind (arith, common_steps, end-closed)
    ]
