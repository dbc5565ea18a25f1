use Rattle.ipfw_parser.proofs.Steps.Hex.{IsHexReading}
use Rattle.ipfw_parser.proofs.addresses6.hex_number.Given as goal

abbrev pub invariant-loop-byte : goal.invariant-loop-byte
invariant-loop-byte l = IsHexReading l.text l.byte-index l.value
