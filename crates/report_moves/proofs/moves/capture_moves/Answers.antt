use Rattle.report_moves.proofs.Rows.{capture_told}
use Rattle.report_moves.proofs.Once.{entries_told_once}
use Rattle.report_moves.proofs.moves.capture_moves.Goals as goal

pub returns-clause-told : goal.returns-clause-told
returns-clause-told c =
    let made = c.in_ok-moves.ensures in
    capture_told c.args.capture c.args.old.now c.args.new.now c.in_ok-spans.spans c.in_ok-moves.moves.items made.entries c.in_ok-spans.ensures.spans
    made.found

pub returns-clause-once : goal.returns-clause-once
returns-clause-once c =
    let made = c.in_ok-moves.ensures in
    entries_told_once c.args.capture c.in_ok-spans.spans c.in_ok-moves.moves.items made.entries made.unique
