use Rattle.std.proofs.Common.{drop, flat_map}
use Rattle.fw_base.proofs.Texts.{IsUnderWay}
use Rattle.report_texts.specs.JournalText.{entry_line}
use Rattle.fw_report.proofs.journal_lines.write_entries.Given as goal

abbrev pub invariant-loop-entry : goal.invariant-loop-entry
invariant-loop-entry g l = IsUnderWay (g.K.Sink.state l.initial.out) (g.K.Sink.state l.out) (flat_map (entry_line l.names) l.entries) (flat_map (entry_line l.names) (drop l.entry-index l.entries))
