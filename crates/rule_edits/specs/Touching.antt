-- The commands that touch rules, and what the others leave as it was (ipfw(8), "SYNOPSIS").
use Rattle.std.specs.Prelude.{◌≡◌, Bool, true, false, Ok}
use Rattle.fw_rule.specs.declared.command.Command.{Command}
use Rattle.fw_rule.specs.declared.command.Command.TheVariants.{Add, Delete, DeleteSet, Flush, Zero, ListRules, SetMask, MoveSet, MoveRule, SwapSets, Table, Sysctl, Local}
use Rattle.rule_edits.specs.Apply.{apply}
use Rattle.rule_chain.specs.Configuration.{Configuration, HasRulesOf}

-- the command may change a rule, take one away or add one; the others are on disabled sets, tables,
-- settings and addresses, or list
abbrev pub touches_rules : Command → Bool
touches_rules (Add draft) = true
touches_rules (Delete numbers) = true
touches_rules (DeleteSet set) = true
touches_rules Flush = true
touches_rules (Zero numbers) = true
touches_rules ListRules = false
touches_rules (SetMask disable enable) = false
touches_rules (MoveSet from to) = true
touches_rules (MoveRule number to) = true
touches_rules (SwapSets first second) = true
touches_rules (Table name command) = false
touches_rules (Sysctl setting value) = false
touches_rules (Local addresses) = false

-- a command that touches no rule leaves the rules and the flow names as they were
abbrev pub UntouchedRulesStay : Type 0
UntouchedRulesStay = (before after : Configuration) (command : Command) → touches_rules command ≡ false → apply before command ≡ Ok after → HasRulesOf before after
