use Rattle.std.proofs.Common.{◌≡◌, [], sym, ◌∙◌, ap, arith, rules, drop_of_length-le}
use Rattle.std.proofs.lemmas.Result.{err_from_is_err_and}
use Rattle.fw_command.specs.Lines.{lines_of}
use Rattle.fw_command.specs.declared.statement.Place.{Place}
use Rattle.fw_command.proofs.Pieces.{lines_of-nil}
use Rattle.fw_command.proofs.ScriptSteps.{goes, breaks, ends, fails_on, next_line, next_ran}
use Rattle.fw_command.proofs.scripts.read_lines.Goals as goal

pub returns-in_err-statement : goal.returns-in_err-statement
returns-in_err-statement c =
    let p = err_from_is_err_and c.from_residual.result c.from_residual.ensures.1 in
    rw (p.1, p.2) (fails_on _ _ _ (λ f failed. breaks _ _ _ _ _ _ _ f c.loop-rest.invariant.read c.first_line.ensures.lines failed) c.in_err-statement.ensures)

pub loop-rest-preserved : goal.loop-rest-preserved
loop-rest-preserved c =
    let line = ap (λ (p : Place). p.line) c.next_place-next.ensures ∙ next_line c.loop-rest.place c.in_ok-statement.statement in
    let ran = rw (← c.next_place-next.ensures) at (next_ran c.loop-rest.place c.in_ok-statement.statement) in
    record {
      read = goes _ _ _ _ _ _ _ _ _ _ c.loop-rest.invariant.read c.first_line.ensures.lines (sym c.in_ok-statement.ensures) c.in_ok-take.ensures.taken c.next_place-next.ensures;
      within = omega arith;
      few_lines = omega arith;
      few_live = omega arith;
    }

pub returns : goal.returns
returns c =
    let none : c.loop-rest.rest.now ≡ [] = drop_of_length-le c.loop-rest.rest.now {i = 0} (search rules) in
    rw c.script.ensures (sym (ends _ _ _ _ _ c.loop-rest.invariant.read (ap lines_of none ∙ lines_of-nil)))
