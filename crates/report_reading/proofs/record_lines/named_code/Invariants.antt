use Rattle.std.proofs.Common.{◌≡◌, drop, map}
use Rattle.report_reading.specs.RecordLines.{named_code_at}
use Rattle.report_reading.proofs.record_lines.named_code.Given as goal

abbrev pub invariant-loop-code : goal.invariant-loop-code
invariant-loop-code l =
    named_code_at (drop l.code (map (λ name. name.now) l.names)) l.code l.text ≡ named_code_at (map (λ name. name.now) l.names) 0 l.text
