use Rattle.std.proofs.Common.{◌≡◌, ℕ, List, Option, Some, None, refl, sym, ap, ◌∙◌}
use Rattle.std.specs.Prelude.{IfSome, is_some}
use Rattle.std.specs.Option.{option_map}
use Rattle.report_reading.specs.Readings.{IsLineOf, line_value, reading_of}
use Rattle.report_reading.specs.declared.readings.Reading.{Reading}
use Rattle.report_reading.proofs.ReadingsTold.{reading_told, record_read, publication_read, ask_read, lane_read, light_read}
use Rattle.report_reading.proofs.readings.read_line.Goals as goal

found_of : (line : List ℕ) (found : Option Reading) → option_map line_value found ≡ reading_of line → IfSome found (λ told. IsLineOf line (line_value told))
found_of line None is = tt
found_of line (Some told) is = reading_told line (line_value told) (sym is)

some_mapped : (found : Option Reading) → is_some found ≡ is_some (option_map line_value found)
some_mapped None = refl
some_mapped (Some told) = refl

pub returns-clause-found : goal.returns-clause-found
returns-clause-found c = found_of c.args.line.now c.reading_of.result c.reading_of.ensures

pub returns-clause-records : goal.returns-clause-records
returns-clause-records c = λ capture at entry within is. c.reading_of.ensures ∙ ap reading_of is ∙ record_read capture at entry within

pub returns-clause-publications : goal.returns-clause-publications
returns-clause-publications c = λ number within is. c.reading_of.ensures ∙ ap reading_of is ∙ publication_read number within

pub returns-clause-asks : goal.returns-clause-asks
returns-clause-asks c = λ names lane at asked reply within is. c.reading_of.ensures ∙ ap reading_of is ∙ ask_read names lane at asked reply within

pub returns-clause-lanes : goal.returns-clause-lanes
returns-clause-lanes c = λ lane refused tracker within is. c.reading_of.ensures ∙ ap reading_of is ∙ lane_read lane refused tracker within

pub returns-clause-others : goal.returns-clause-others
returns-clause-others c = λ light. some_mapped c.reading_of.result ∙ ap is_some c.reading_of.ensures ∙ light_read c.args.line.now light
