use Rattle.std.proofs.Common.{◌∙◌, ◌+◌, drop, sym, ap, Option, Vec, Global}
use Rattle.std.proofs.lemmas.Result.{err_from_is_err_and}
use Rattle.report_texts.specs.declared.ends.LineAnswer.{LineAnswer}
use Rattle.replay_setup.specs.FirstEdition.{listings_of}
use Rattle.replay_setup.proofs.ScriptLines.{behind, line_at, passed_on, listings_on, listings_stops, listings_none}
use Rattle.replay_setup.proofs.first_edition.answer_listings.Goals as goal

pub returns-in_err-list_line : goal.returns-in_err-list_line
returns-in_err-list_line c =
    let front = line_at c.args.lines.now c.loop-line.line-index c.line-item.result c.loop-line-test.true c.line-item.is in
    let (error, is, same) = err_from_is_err_and c.from_residual.result c.from_residual.ensures.1 in
    rw (is, same) (passed_on (λ (x : Option LineAnswer). x) (λ (x : Vec LineAnswer Global). x.items) c.in_err-list_line.field-0.0 _ (listings_of c.args.config.now c.args.lines.now)
    (λ e stop. sym c.loop-line.invariant ∙ ap (behind c.args.config.now c.loop-line.answers.items) front
    ∙ listings_stops c.args.config.now c.loop-line.answers.items c.line-item.result (drop (c.loop-line.line-index + 1) c.args.lines.now) e stop) c.in_err-list_line.ensures)

pub loop-line-preserved : goal.loop-line-preserved
loop-line-preserved c =
    let front = line_at c.args.lines.now c.loop-line.line-index c.line-item.result c.loop-line-test.true c.line-item.is in
    sym (listings_on c.args.config.now c.loop-line.answers.items _ c.line-item.result (drop (c.loop-line.line-index + 1) c.args.lines.now) _ c.in_ok-list_line.ensures c.in_ok-add_answer.ensures.ok)
    ∙ ap (behind c.args.config.now c.loop-line.answers.items) (sym front) ∙ c.loop-line.invariant

pub returns : goal.returns
returns c = sym c.loop-line.invariant ∙ listings_none c.args.config.now c.loop-line.answers.items c.args.lines.now c.loop-line.line-index c.loop-line-test.false
