use Rattle.std.proofs.Common.{ℕ, List, refl, sym, subst}
use Rattle.report_values.specs.Captures.{IsCutOff}
use Rattle.report_values.proofs.capture.read_capture.Goals as goal

pub returns-clause-lines : goal.returns-clause-lines
returns-clause-lines c =
    let none = rw c.len.ensures at c.in-None.ensures.none in
    let here : IsCutOff c.args.number c.args.lines.now.rest.now c.read_records.new.lines.rest.now = record {
      entries = c.in_ok-records.records;
      lines = c.in_ok-records.ensures.lines;
      no_record = c.in_ok-records.ensures.none;
      no_end = none refl;
    } in
    subst (λ (at : List ℕ). IsCutOff c.args.number c.args.lines.now.rest.now at) (sym c.in-None.ensures.line) here
