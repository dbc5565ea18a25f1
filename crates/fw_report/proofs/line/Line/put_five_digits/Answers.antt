use Rattle.std.proofs.Common.{arith, ◌≤◌, ◌≡◌, ◌-◌, length, drop, ap, ℕ, length-drop, length-append, append_assoc}
use Rattle.std.specs.Fmt.{decimal}
use Rattle.std.proofs.lemmas.Fmt.{length-decimal-le}
use Rattle.std.proofs.lemmas.List.{take-replicate, length-replicate}
use Rattle.std.proofs.Math.ListN.{replicate}
use Rattle.rule_text.specs.Canonical.{five_digits}
use Rattle.fw_report.proofs.line.Line.put_five_digits.Goals as goal

pub write_digits-start-requires : goal.write_digits-start-requires
write_digits-start-requires c =
    let short : length (decimal c.from.result) ≤ 5 = length-decimal-le 5 c.from.result (omega arith) (omega arith) (omega arith) in
    (omega (arith, ap length c.self.view_is, length-drop {A = ℕ}), omega arith)

pub overflow_sub-zeros-2 : goal.overflow_sub-zeros-2
overflow_sub-zeros-2 c =
    let short : length (decimal c.from.result) ≤ 5 = length-decimal-le 5 c.from.result (omega arith) (omega arith) (omega arith) in
    omega arith

pub returns-clause-items : goal.returns-clause-items
unfolding five_digits
returns-clause-items c =
    let short : length (decimal c.from.result) ≤ 5 = length-decimal-le 5 c.from.result (omega arith) (omega arith) (omega arith) in
    let digits : c.self.inside.start - c.write_digits-start.result ≡ length (decimal c.from.result) = omega arith in
    let zeros = 5 - length (decimal c.from.result) in
    let within : zeros ≤ 5 = omega arith in
    let joined = append_assoc (replicate {A = ℕ} zeros 48) (decimal c.from.result) (drop c.self.inside.start c.self.inside.bytes) in
    rw (c.write_before-self-inside.ensures.written, c.write_digits-start.ensures.written, digits, take-replicate {X = ℕ} zeros 5 48 within) cc

pub returns-clause-room : goal.returns-clause-room
returns-clause-room c =
    let short : length (decimal c.from.result) ≤ 5 = length-decimal-le 5 c.from.result (omega arith) (omega arith) (omega arith) in
    let digits : c.self.inside.start - c.write_digits-start.result ≡ length (decimal c.from.result) = omega arith in
    let zeros = 5 - length (decimal c.from.result) in
    let within : zeros ≤ 5 = omega arith in
    rw (c.write_before-self-inside.ensures.written, c.write_digits-start.ensures.written, digits, take-replicate {X = ℕ} zeros 5 48 within, length-append, length-replicate, length-append) (omega (arith, ap length c.self.view_is))
