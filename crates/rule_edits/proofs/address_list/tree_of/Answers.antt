use Rattle.std.proofs.Common.{get_or, take}
use Rattle.std.proofs.lemmas.List.{take_more}
use Rattle.fw_base.specs.declared.address.Addr.{Addr}
use Rattle.rule_edits.proofs.Listed.{listed_more}
use Rattle.rule_edits.proofs.address_list.tree_of.Goals as goal

pub loop-address-preserved : goal.loop-address-preserved
loop-address-preserved c =
    let none : Addr = record { 0 = 0 } in
    let more = listed_more (take c.loop-address.address-index c.args.addresses.now) (get_or c.args.addresses.now c.loop-address.address-index none) c.loop-address.tree c.insert.new.self
    c.in_ok-insert.ensures.updates c.loop-address.invariant in
    rw (take_more c.args.addresses.now c.loop-address.address-index none c.loop-address-test.true) more
