use Rattle.std.specs.List.{AllByRecursion}
use Rattle.fw_rule.specs.WellFormed.{IsNumber}
use Rattle.chain_tests.proofs.commands.steps.repeated.Given as goal

abbrev pub invariant-loop : goal.invariant-loop
invariant-loop l = AllByRecursion IsNumber l.numbers.items
