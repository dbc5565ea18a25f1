use Rattle.std.proofs.Common.{◌≡◌, ◌+◌, drop}
use Rattle.fw_base.proofs.Texts.{IsUnderWay}
use Rattle.report_texts.specs.DocketText.{captures_text}
use Rattle.fw_report.proofs.docket_lines.write_captures.Given as goal

abbrev pub invariant-loop-docket : goal.invariant-loop-docket
invariant-loop-docket g l = record {
  number : l.capture ≡ l.docket-index + 1;
  written : IsUnderWay (g.K.Sink.state l.initial.out) (g.K.Sink.state l.out) (captures_text 1 l.dockets l.ends) (captures_text l.capture (drop l.docket-index l.dockets) l.rest);
}
