use Rattle.std.proofs.Common.{◌≡◌, ◌+◌, ◌<◌, ◌≤◌, ◌∙◌, ◌++◌, ◌∷◌, [], ap, arith, length, refl, subst, sym, take, get_or}
use Rattle.std.proofs.lemmas.Iterator.Adapters.{YieldsList-from_vec}
use Rattle.std.proofs.lemmas.Iterator.Consumers.{YieldsList-end, YieldsList-so_far, YieldsList-turn}
use Rattle.std.proofs.lemmas.List.{get_or_read_under, map-id}
use Rattle.std.proofs.lemmas.Result.{err_from_is_err_and}
use Rattle.report_flows.proofs.CapturesSteps.{CountedSoFar, counted_all, counted_more, counted_nothing, first_cause, has_cause, written_back}
use Rattle.report_flows.proofs.told_flows.count_captures.Goals as goal

pub loop-source-init : goal.loop-source-init
loop-source-init g c =
    counted_nothing g.S.Source.left g.S.Source.faults c.args.old.now c.args.new.now c.args.moves.now c.in_ok-counts.counts.items
    c.in_ok-counts.ensures

pub count_whole-requires-clause-lengths : goal.count_whole-requires-clause-lengths
count_whole-requires-clause-lengths g c =
    let old = c.args.old.now in
    let new = c.args.new.now in
    let at = c.loop-source.at in
    let gives = c.into_iter-source-iterator.ensures.into_iter_gives in
    let list = YieldsList-from_vec c.args.captures.items gives.0 (gives.1 ∙ c.args.captures.ok.0) in
    let turn = YieldsList-turn list c.loop-source.yielded c.loop-source.source-iterator c.loop-source.yielded_by c.next.result c.next.new.self c.in-Some.source c.in-Some.is c.next.ensures.steps in
    let within : at < length old = omega (arith, turn.0, c.loop-source.invariant.taken, c.requires.captures) in
    let within_new : at < length new = omega (arith, within, c.requires.lengths.captures) in
    let old_is = c.as_slice.ensures ∙ get_or_read_under old at (length old) c.index-old-at.result [] c.index-old-at.is within refl in
    let new_is = c.as_slice-in-loop-source.ensures ∙ get_or_read_under new at (length new) c.index-new-at.result [] c.index-new-at.is within_new refl in
    ap length old_is ∙ c.requires.lengths.records at within ∙ sym (ap length new_is)

pub loop-source-preserved : goal.loop-source-preserved
loop-source-preserved g c =
    let old = c.args.old.now in
    let new = c.args.new.now in
    let at = c.loop-source.at in
    let gives = c.into_iter-source-iterator.ensures.into_iter_gives in
    let list = YieldsList-from_vec c.args.captures.items gives.0 (gives.1 ∙ c.args.captures.ok.0) in
    let turn = YieldsList-turn list c.loop-source.yielded c.loop-source.source-iterator c.loop-source.yielded_by c.next.result c.next.new.self c.in-Some.source c.in-Some.is c.next.ensures.steps in
    let within : at < length old = omega (arith, turn.0, c.loop-source.invariant.taken, c.requires.captures) in
    let within_new : at < length new = omega (arith, within, c.requires.lengths.captures) in
    let old_is = c.as_slice.ensures ∙ get_or_read_under old at (length old) c.index-old-at.result [] c.index-old-at.is within refl in
    let new_is = c.as_slice-in-loop-source.ensures ∙ get_or_read_under new at (length new) c.index-new-at.result [] c.index-new-at.is within_new refl in
    let inv = c.loop-source.invariant in
    let here = rw (old_is, new_is, c.deref_mut.ensures.value) at c.in_ok-count_whole.ensures.counted in
    let same : length c.count_whole.new.counts ≡ length c.loop-source.counts.items = here.counted.count in
    subst (CountedSoFar g.S.Source.left g.S.Source.faults old new c.args.moves.now (c.loop-source.yielded ++ c.in-Some.source ∷ []) (at + 1))
    (sym (written_back c.loop-source.counts.items c.count_whole.new.counts c.loop-source.counts.len same c.loop-source.counts.ok.0))
    (counted_more g.S.Source.left g.S.Source.faults old new c.args.moves.now c.loop-source.yielded at c.loop-source.counts.items
    c.count_whole.new.counts c.in-Some.source inv within here)

pub returns-in_err-count_whole-clause-cause : goal.returns-in_err-count_whole-clause-cause
returns-in_err-count_whole-clause-cause g c =
    let told = err_from_is_err_and c.from_residual-in_err-count_whole.result c.from_residual-in_err-count_whole.ensures.1 in
    let old = c.args.old.now in
    let at = c.loop-source.at in
    let captures = c.args.captures.items in
    let gives = c.into_iter-source-iterator.ensures.into_iter_gives in
    let list = YieldsList-from_vec c.args.captures.items gives.0 (gives.1 ∙ c.args.captures.ok.0) in
    let turn = YieldsList-turn list c.loop-source.yielded c.loop-source.source-iterator c.loop-source.yielded_by c.next.result c.next.new.self c.in-Some.source c.in-Some.is c.next.ensures.steps in
    let front = YieldsList-so_far list c.loop-source.yielded c.loop-source.source-iterator c.loop-source.yielded_by in
    let size = c.loop-source.invariant.taken in
    let within : at < length captures = omega (arith, turn.0, size) in
    let old_is = c.as_slice.ensures
    ∙ get_or_read_under old at (length old) c.index-old-at.result [] c.index-old-at.is (omega (arith, within, c.requires.captures)) refl
    in
    let cause = rw old_is at c.in_err-count_whole.ensures.cause in
    rw (told.1, told.2)
    (has_cause g.S.Source.left g.S.Source.faults old c.args.new.now c.args.moves.now captures c.in_err-count_whole.field-0.0
    (first_cause g.S.Source.left g.S.Source.faults old c.args.new.now c.args.moves.now captures c.loop-source.yielded at c.loop-source.counts.items
    c.in-Some.source c.in_err-count_whole.field-0.0 c.loop-source.invariant
    (sym (map-id c.loop-source.yielded) ∙ front ∙ ap (λ n. take n captures) size) within
    (turn.1 ∙ ap (λ n. get_or captures n c.in-Some.source) size) cause))

pub returns-clause-counted : goal.returns-clause-counted
returns-clause-counted g c =
    let gives = c.into_iter-source-iterator.ensures.into_iter_gives in
    let list = YieldsList-from_vec c.args.captures.items gives.0 (gives.1 ∙ c.args.captures.ok.0) in
    let whole = YieldsList-end list c.loop-source.yielded c.loop-source.source-iterator c.loop-source.yielded_by c.next.result c.next.new.self c.in-None.is
    c.next.ensures.steps
    in
    let all = sym (map-id c.loop-source.yielded) ∙ whole.0 in
    let past : length c.args.old.now ≤ c.loop-source.at = omega (arith, c.requires.captures, ap length all, c.loop-source.invariant.taken) in
    counted_all g.S.Source.left g.S.Source.faults c.args.old.now c.args.new.now c.args.moves.now c.args.captures.items c.loop-source.yielded
    c.loop-source.at c.loop-source.counts.items all past c.loop-source.invariant
