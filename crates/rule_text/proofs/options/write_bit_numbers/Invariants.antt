use Rattle.std.proofs.Common.{◌-◌, ◌++◌}
use Rattle.std.specs.List.{join_with_byte}
use Rattle.fw_base.proofs.Texts.{IsUnderWay}
use Rattle.fw_rule.specs.Bits.{has_bit}
use Rattle.rule_text.specs.Canonical.{numbers_where}
use Rattle.rule_text.proofs.Lists.{parted}
use Rattle.rule_text.proofs.options.write_bit_numbers.Given as goal

abbrev pub invariant-loop-bit : goal.invariant-loop-bit
invariant-loop-bit g l =
    IsUnderWay (g.K.Sink.state l.fn.out) (g.K.Sink.state l.out) (l.fn.word ++ join_with_byte 44 (numbers_where (has_bit l.mask) 32 0))
    (parted l.before (numbers_where (has_bit l.mask) (32 - l.bit) l.bit))
