use Rattle.std.proofs.Common.{◌<◌, ◌∙◌, [], ap, arith, refl, length}
use Rattle.std.proofs.lemmas.List.{get_or_read_under}
use Rattle.report_moves.proofs.Once.{none_so_far, more_so_far}
use Rattle.report_moves.proofs.moves.all_moves.Goals as goal

pub loop-at-init : goal.loop-at-init
loop-at-init c = none_so_far c.args.old.now c.args.new.now c.new-moves.result.items (search)

pub loop-at-preserved : goal.loop-at-preserved
loop-at-preserved c =
    let old = c.args.old.now in
    let new = c.args.new.now in
    let within : c.loop-at.at < length old = search in
    let within_new : c.loop-at.at < length new = omega (arith, within, c.requires.captures) in
    let old_is = c.as_slice.ensures ∙ get_or_read_under old c.loop-at.at (length old) c.index-old-at.result [] c.index-old-at.is within refl in
    let new_is = c.as_slice-in-loop-at.ensures ∙ get_or_read_under new c.loop-at.at (length new) c.index-new-at.result [] c.index-new-at.is within_new refl in
    more_so_far old new c.loop-at.at c.loop-at.moves.items c.in_ok-more.more.items c.append.new.self.items within c.in_ok-append.ensures.items
    c.loop-at.invariant (rw (old_is, new_is) at c.in_ok-more.ensures.told) c.in_ok-more.ensures.once (c.in_ok-more.ensures.all ∙ ap length old_is)
