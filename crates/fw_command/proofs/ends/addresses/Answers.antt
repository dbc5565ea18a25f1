use Rattle.std.proofs.lemmas.Result.{err_from_is_err_and}
use Rattle.ipfw_parser.proofs.Steps.Lists.{fails_on}
use Rattle.ipfw_parser.proofs.Steps.Options.{no_words_is}
use Rattle.fw_command.specs.Commands.{addresses}
use Rattle.fw_command.proofs.WordLists.{opened, goes, breaks, ends, fewer}
use Rattle.fw_command.proofs.ends.addresses.Goals as goal

pub loop-word-smaller : goal.loop-word-smaller
loop-word-smaller c = fewer _ _ _ c.in-Some.ensures

pub returns-in_err-plain_address : goal.returns-in_err-plain_address
unfolding addresses
returns-in_err-plain_address c =
    let p = err_from_is_err_and c.from_residual.result c.from_residual.ensures.1 in
    rw (p.1, p.2)
    (fails_on _ _ _ (λ f failed. breaks _ _ _ _ _ f (opened _ _ _ _ _ _ c.in-Some.ensures c.loop-word.invariant) failed) c.in_err-plain_address.ensures)

pub loop-word-preserved : goal.loop-word-preserved
loop-word-preserved c =
    rw c.in_ok-push.ensures.items (goes _ _ _ _ _ _ (opened _ _ _ _ _ _ c.in-Some.ensures c.loop-word.invariant) c.in_ok-plain_address.ensures)

pub returns : goal.returns
unfolding addresses
returns c =
    let none = no_words_is _ c.in_default.ensures in
    rw c.from_vec.ensures (ends _ _ _ (rw none at c.loop-word.invariant))
