use Rattle.std.proofs.Common.{◌++◌, drop, map}
use Rattle.std.specs.List.{join_with_byte}
use Rattle.fw_base.proofs.Texts.{IsUnderWay}
use Rattle.rule_text.specs.Canonical.{signed_names}
use Rattle.rule_text.proofs.Lists.{parted}
use Rattle.rule_text.proofs.options.write_signed_names.Given as goal

abbrev pub invariant-loop-bit : goal.invariant-loop-bit
invariant-loop-bit g l =
    IsUnderWay (g.K.Sink.state l.fn.out) (g.K.Sink.state l.out)
    (l.fn.word ++ join_with_byte 44 (signed_names (map (λ name. name.now) l.names) 0 l.set l.clear)) (parted l.before (signed_names (map (λ name. name.now) (drop l.bit l.names)) l.bit l.set l.clear))
