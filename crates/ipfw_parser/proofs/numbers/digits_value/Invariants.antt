use Rattle.ipfw_parser.proofs.Steps.Digits.{IsReading}
use Rattle.ipfw_parser.proofs.numbers.digits_value.Given as goal

abbrev pub invariant-loop-byte : goal.invariant-loop-byte
invariant-loop-byte l = IsReading l.text l.byte-index l.value
