use Rattle.std.proofs.lemmas.Result.{err_from_is_err_and}
use Rattle.ipfw_parser.proofs.Steps.Lists.{fails_on}
use Rattle.ipfw_parser.proofs.Steps.Options.{no_words_is}
use Rattle.fw_command.specs.Commands.{numbers}
use Rattle.fw_command.proofs.WordLists.{opened, goes, breaks, ends, fewer}
use Rattle.fw_command.proofs.ends.numbers.Goals as goal

pub loop-word-smaller : goal.loop-word-smaller
loop-word-smaller c = fewer _ _ _ c.in-Some.ensures

pub returns-in_err-rule_number : goal.returns-in_err-rule_number
unfolding numbers
returns-in_err-rule_number c =
    let p = err_from_is_err_and c.from_residual.result c.from_residual.ensures.1 in
    rw (p.1, p.2)
    (fails_on _ _ _ (λ f failed. breaks _ _ _ _ _ f (opened _ _ _ _ _ _ c.in-Some.ensures c.loop-word.invariant) failed) c.in_err-rule_number.ensures)

pub loop-word-preserved : goal.loop-word-preserved
loop-word-preserved c =
    rw c.in_ok-push.ensures.items (goes _ _ _ _ _ _ (opened _ _ _ _ _ _ c.in-Some.ensures c.loop-word.invariant) c.in_ok-rule_number.ensures)

pub returns : goal.returns
unfolding numbers
returns c =
    let none = no_words_is _ c.in_default.ensures in
    rw c.from_vec.ensures (ends _ _ _ (rw none at c.loop-word.invariant))
