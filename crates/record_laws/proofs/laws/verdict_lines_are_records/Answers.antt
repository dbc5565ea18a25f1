use Rattle.record_laws.proofs.PrintedLines.{verdict_lines_are_records}
use Rattle.record_laws.proofs.laws.verdict_lines_are_records.Goals as goal

pub returns : goal.returns
returns c = verdict_lines_are_records
