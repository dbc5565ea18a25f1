use Rattle.report_texts.proofs.LineCounts.{record_lines_are_records}
use Rattle.report_texts.proofs.laws.record_lines_are_records.Goals as goal

pub returns : goal.returns
returns c = record_lines_are_records
