use Rattle.std.proofs.Common.{refl, sym, ◌∙◌}
use Rattle.std.proofs.lemmas.Result.{err_from_is_err_and}
use Rattle.ipfw_parser.proofs.Steps.Lists.{fails_on}
use Rattle.ipfw_parser.proofs.Steps.Options.{some_words_is, no_words_is}
use Rattle.fw_command.proofs.WordLists.{fewer}
use Rattle.fw_command.proofs.SetSteps.{set_goes, set_breaks, sets_end, sets_done}
use Rattle.fw_command.proofs.set_commands.more_sets.Goals as goal

pub loop-word-smaller : goal.loop-word-smaller
loop-word-smaller c = fewer _ _ _ c.in-Some.ensures

pub returns-then-ends_sets : goal.returns-then-ends_sets
returns-then-ends_sets c =
    let here = some_words_is _ _ c.in-Some.ensures in
    rw here (sets_end _ _ _ _ _ (sym c.ends_sets.ensures ∙ c.if-ends_sets.true) (rw here at c.loop-word.invariant))

pub returns-in_err-mask : goal.returns-in_err-mask
returns-in_err-mask c =
    let here = some_words_is _ _ c.in-Some.ensures in
    let p = err_from_is_err_and c.from_residual.result c.from_residual.ensures.1 in
    let so_far = rw here at c.loop-word.invariant in
    rw (p.1, p.2) (fails_on _ _ _ (λ f failed. set_breaks _ _ _ _ _ f (sym c.ends_sets.ensures ∙ c.if-ends_sets.false) so_far failed) c.in_err-mask.ensures)

pub loop-word-preserved : goal.loop-word-preserved
loop-word-preserved c =
    let here = some_words_is _ _ c.in-Some.ensures in
    let so_far = rw here at c.loop-word.invariant in
    set_goes _ _ _ _ _ _ _ (sym c.ends_sets.ensures ∙ c.if-ends_sets.false) so_far c.in_ok-mask.ensures refl

pub returns : goal.returns
returns c =
    let none = no_words_is _ c.in_default.ensures in
    rw none (sets_done _ _ _ (rw none at c.loop-word.invariant))
