use Rattle.std.proofs.Common.{◌≡◌, take}
use Rattle.run_audit.specs.AskStands.{asked_by_each}
use Rattle.run_audit.proofs.ask_stands.asked_by_each.Given as goal

abbrev pub invariant-loop-stand : goal.invariant-loop-stand
invariant-loop-stand l = l.asked.items ≡ asked_by_each l.entries (take l.stand-index l.stands)
