use Rattle.std.proofs.Common.{◌≡◌, ◌+◌, drop}
use Rattle.fw_base.proofs.Texts.{IsUnderWay}
use Rattle.report_texts.specs.JournalText.{hits_text}
use Rattle.fw_report.proofs.journal_lines.write_hits.Given as goal

abbrev pub invariant-loop-count : goal.invariant-loop-count
invariant-loop-count g l = record {
  number : l.lane ≡ l.count-index + 1;
  written : IsUnderWay (g.K.Sink.state l.initial.out) (g.K.Sink.state l.out) (hits_text 1 l.hits) (hits_text l.lane (drop l.count-index l.hits));
}
