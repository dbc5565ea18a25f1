use Rattle.std.proofs.Common.{refl, sym, ◌∙◌}
use Rattle.ipfw_parser.proofs.Steps.Digits.{ends, breaks}
use Rattle.ipfw_parser.proofs.numbers.digits_value.Goals as goal

pub returns-then-not-is_ascii_digit : goal.returns-then-not-is_ascii_digit
returns-then-not-is_ascii_digit c = breaks _ _ _ _ c.loop-byte-test.true refl (sym c.is_ascii_digit.ensures.value ∙ c.if-not-is_ascii_digit.true) c.loop-byte.invariant

pub returns : goal.returns
returns c = ends _ _ _ c.loop-byte-test.false c.loop-byte.invariant
