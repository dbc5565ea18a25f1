use Rattle.std.proofs.Common.{◌+◌, ◌≤◌, refl, arith}
use Rattle.rule_edits.specs.Rules as lists
use Rattle.rule_edits.proofs.Chosen.{chosen_least}
use Rattle.rule_edits.proofs.Kept.{add_kept, drafted}
use Rattle.rule_edits.proofs.edited.Edited.with_drafted_rule.Goals as goal

pub invariant_of-self : goal.invariant_of-self
invariant_of-self c =
    let least : 1 ≤ c.args.number = rw c.requires.ready.chosen (chosen_least c.args.self.rules c.args.draft.number) in
    let room = rw (← c.self.view_is) at c.requires.ready.room in
    let counters = rw (← c.self.view_is) at c.requires.ready.counters in
    let named = rw (← c.self.view_is) at c.requires.ready.named in
    let rule = drafted c.args.draft c.args.number (c.self.inside.greatest_id + 1) (c.self.inside.greatest_counter + 1) least c.requires.ready.other c.requires.draft in
    add_kept _ _ (lists.rule_of c.args.draft c.args.number (c.self.inside.greatest_id + 1) (c.self.inside.greatest_counter + 1)) c.requires.ready.other (omega arith) (omega arith) rule
    room counters (record { lawful = c.self.invariant.names; stay = λ name has. has }) named
    (rw c.rule_of-rule.ensures at c.in_ok-self-inside.ensures) refl refl refl c.self.invariant
