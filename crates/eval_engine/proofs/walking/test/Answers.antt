use Rattle.std.proofs.Common.{◌∙◌, ◌+◌, [], drop, ap, sym}
use Rattle.eval_engine.specs.Standing.{callers_of, seen_by}
use Rattle.eval_engine.specs.Trace.{Trace, PassesOver}
use Rattle.eval_engine.proofs.Leading.{nears_by}
use Rattle.eval_engine.proofs.Walks.{check_passed, unheld_passed, held_installs}
use Rattle.eval_engine.proofs.walking.test.Goals as goal

pub returns-then-is_check_state : goal.returns-then-is_check_state
returns-then-is_check_state c =
    let q = c.args.question.now in
    let seen = seen_by c.args.searched.now in
    let passed = check_passed q seen (callers_of c.args.at.now.callers) c.args.rule.now (drop (c.args.at.now.place + 1) q.edition.config.rules) [] (sym c.if-is_check_state.ensures) in
    rw c.pass_over.ensures.on (nears_by q _ _ c.args.tally.now (passed ∙ ap (λ (t : Trace). PassesOver t) (sym (c.pass_over.ensures.next seen))))

pub returns-then-is_held : goal.returns-then-is_held
returns-then-is_held c =
    let q = c.args.question.now in
    let held = held_installs q (seen_by c.args.searched.now) (callers_of c.args.at.now.callers) c.args.rule.now (drop (c.args.at.now.place + 1) q.edition.config.rules) [] (sym c.if-is_check_state.ensures) (sym c.if-is_held.ensures) in
    rw held c.install.ensures

pub returns-else-is_held : goal.returns-else-is_held
returns-else-is_held c =
    let q = c.args.question.now in
    let seen = seen_by c.args.searched.now in
    let passed = unheld_passed q seen (callers_of c.args.at.now.callers) c.args.rule.now (drop (c.args.at.now.place + 1) q.edition.config.rules) [] (sym c.if-is_check_state.ensures) (sym c.if-is_held.ensures) in
    rw c.pass_over-else-is_held.ensures.on (nears_by q _ _ c.args.tally.now (passed ∙ ap (λ (t : Trace). PassesOver t) (sym (c.pass_over-else-is_held.ensures.next seen))))
