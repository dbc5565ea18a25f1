use Rattle.std.proofs.Common.{◌≡◌, ℕ, List, Option, Some, None, sym, ap, ◌∙◌}
use Rattle.std.specs.Prelude.{IfSome}
use Rattle.report_texts.specs.DocketText.{record_line}
use Rattle.report_reading.specs.RecordLines.{IsRecord, record_in}
use Rattle.report_reading.specs.declared.record_lines.RecordLine.{RecordLine}
use Rattle.report_reading.proofs.RecordsAgain.{record_again}
use Rattle.report_reading.proofs.RecordsTold.{record_told}
use Rattle.report_reading.proofs.record_lines.read_record.Goals as goal

text_of : (line : List ℕ) (found : Option RecordLine) → found ≡ record_in line → IfSome found (λ told. line ≡ record_line told.capture told.at told.entry)
text_of line None is = tt
text_of line (Some told) is = (record_told line told (sym is)).split

within_of : (line : List ℕ) (found : Option RecordLine) → found ≡ record_in line → IfSome found (λ told. IsRecord told.capture told.at told.entry)
within_of line None is = tt
within_of line (Some told) is = (record_told line told (sym is)).within

pub returns-clause-found : goal.returns-clause-found
returns-clause-found c = text_of c.args.line.now c.record_in.result c.record_in.ensures

pub returns-clause-within : goal.returns-clause-within
returns-clause-within c = within_of c.args.line.now c.record_in.result c.record_in.ensures

pub returns-clause-only : goal.returns-clause-only
returns-clause-only c = λ capture at told within is. c.record_in.ensures ∙ ap record_in is ∙ record_again capture at told within
