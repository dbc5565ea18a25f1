use Rattle.std.proofs.Common.{◌-◌, ◌++◌}
use Rattle.std.specs.List.{join_with_byte}
use Rattle.fw_base.proofs.Texts.{IsUnderWay}
use Rattle.rule_text.specs.Canonical.{numbers_where}
use Rattle.fw_rule.specs.TypeSet.{has_type}
use Rattle.rule_text.proofs.Lists.{parted}
use Rattle.rule_text.proofs.options.write_type_numbers.Given as goal

abbrev pub invariant-loop-number : goal.invariant-loop-number
invariant-loop-number g l =
    IsUnderWay (g.K.Sink.state l.fn.out) (g.K.Sink.state l.out) (l.fn.word ++ join_with_byte 44 (numbers_where (has_type l.types) 256 0))
    (parted l.before (numbers_where (has_type l.types) (256 - l.number) l.number))
