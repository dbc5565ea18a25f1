use Rattle.std.proofs.Common.{drop}
use Rattle.std.specs.List.{flat_map}
use Rattle.fw_base.proofs.Texts.{IsUnderWay}
use Rattle.rule_text.specs.Canonical.{spaced_text, option_words}
use Rattle.rule_text.proofs.options.write_options.Given as goal

abbrev pub invariant-loop-option : goal.invariant-loop-option
invariant-loop-option g l =
    IsUnderWay (g.K.Sink.state l.initial.out) (g.K.Sink.state l.out) (spaced_text (flat_map option_words l.options))
    (spaced_text (flat_map option_words (drop l.option-index l.options)))
