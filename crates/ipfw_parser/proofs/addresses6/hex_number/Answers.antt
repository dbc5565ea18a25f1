use Rattle.std.proofs.Common.{◌<◌, refl, sym, ◌∙◌, arith}
use Rattle.ipfw_parser.proofs.Steps.Hex.{ends, breaks, room}
use Rattle.ipfw_parser.proofs.addresses6.hex_number.Goals as goal

pub returns-then-not-is_hex : goal.returns-then-not-is_hex
returns-then-not-is_hex c = breaks _ _ _ _ c.loop-byte-test.true refl (sym c.is_hex.ensures ∙ c.if-not-is_hex.true) c.loop-byte.invariant

pub returns : goal.returns
returns c = ends _ _ _ c.loop-byte-test.false c.loop-byte.invariant

pub overflow_mul-value : goal.overflow_mul-value
overflow_mul-value c =
    let few : c.loop-byte.byte-index < 4 = omega (arith, c.requires, c.loop-byte-test.true) in
    omega (arith, room c.loop-byte.byte-index c.loop-byte.value 0 few (omega arith) c.loop-byte.invariant.small)

pub overflow_add-value : goal.overflow_add-value
overflow_add-value c =
    let few : c.loop-byte.byte-index < 4 = omega (arith, c.requires, c.loop-byte-test.true) in
    let small : c.from.result < 16 = omega (arith, c.from.ensures, c.hex_value.ensures.small) in
    omega (arith, room c.loop-byte.byte-index c.loop-byte.value c.from.result few small c.loop-byte.invariant.small)
