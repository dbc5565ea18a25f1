use Rattle.std.proofs.Common.{refl, ◌∙◌}
use Rattle.lookup_tables.specs.AddrTable.{network_cmp}
use Rattle.lookup_tables.specs.Pieces.{AreEntries}
use Rattle.lookup_tables.proofs.Networks.{network_cmp_total, network_same}
use Rattle.lookup_tables.proofs.Places.{HasKey-value, value-HasKey}
use Rattle.lookup_tables.proofs.Takes.{entries_left, some_entry}
use Rattle.lookup_tables.proofs.addr_table.AddrTable.remove.Goals as goal

pub invariant_of-self : goal.invariant_of-self
invariant_of-self c = rw (c.remove_entry.ensures.same (c.if-not-remove_entry.true)) c.self.invariant

pub returns-then-not-remove_entry-clause-there : goal.returns-then-not-remove_entry-clause-there
returns-then-not-remove_entry-clause-there c =
    let there = rw c.self.view_is at c.remove_entry.ensures.there in
    (λ is. cc, λ has. let yes_there = there.1 (value-HasKey network_cmp network_cmp_total network_same c.args.self.now c.args.key has) in let none = c.if-not-remove_entry.true in cc)

pub take_prefix-requires-clause-entries : goal.take_prefix-requires-clause-entries
take_prefix-requires-clause-entries c =
    rw (c.deref.ensures.value, c.remove_entry.ensures.after) (entries_left c.self.inside.entries.items c.args.key c.self.invariant.lawful (rw c.remove_entry.ensures.after at c.remove_entry.ensures.ordered))

pub invariant_of-self-2 : goal.invariant_of-self-2
invariant_of-self-2 c =
    let some = c.remove_entry.ensures.there.0 c.if-not-remove_entry.false in
    let kept = c.take_prefix.ensures c.self.inside.entries.items c.self.invariant.lawful (some_entry c.self.inside.entries.items c.args.key some) some (c.deref.ensures.value ∙ c.remove_entry.ensures.after) c.self.invariant.kept in
    let lawful : AreEntries c.remove_entry.new.entries.items =
    rw c.remove_entry.ensures.after (entries_left c.self.inside.entries.items c.args.key c.self.invariant.lawful (rw c.remove_entry.ensures.after at c.remove_entry.ensures.ordered)) in
    record { lawful = lawful; kept = rw c.deref.ensures.value at kept }

pub returns-clause-there : goal.returns-clause-there
returns-clause-there c =
    let there = rw c.self.view_is at c.remove_entry.ensures.there in
    (λ is. HasKey-value network_cmp network_cmp_total network_same c.args.self.now c.args.key (there.0 c.if-not-remove_entry.false), λ has. refl)
