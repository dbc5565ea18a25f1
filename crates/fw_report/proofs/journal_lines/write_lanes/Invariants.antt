use Rattle.std.proofs.Common.{◌≡◌, ◌+◌, drop}
use Rattle.fw_base.proofs.Texts.{IsUnderWay}
use Rattle.report_texts.specs.JournalText.{lanes_text}
use Rattle.fw_report.proofs.journal_lines.write_lanes.Given as goal

abbrev pub invariant-loop-docket : goal.invariant-loop-docket
invariant-loop-docket g l = record {
  number : l.lane ≡ l.docket-index + 1;
  written : IsUnderWay (g.K.Sink.state l.initial.out) (g.K.Sink.state l.out) (lanes_text 1 l.dockets l.trackers) (lanes_text l.lane (drop l.docket-index l.dockets) l.rest);
}
