use Rattle.std.proofs.Common.{◌≡◌, None, Some, Option, is_some, true, false, refl}
use Rattle.lookup_tables.specs.AddrTable.{network_cmp}
use Rattle.lookup_tables.specs.Entries.{value_of}
use Rattle.lookup_tables.specs.Pieces.{AreKept}
use Rattle.lookup_tables.proofs.Faults.{only_memory}
use Rattle.lookup_tables.proofs.Networks.{network_cmp_total, network_same}
use Rattle.lookup_tables.proofs.Places.{HasKey-value, value-HasKey}
use Rattle.lookup_tables.proofs.Puts.{entries_put, kept_division}
use Rattle.lookup_tables.proofs.addr_table.AddrTable.insert.Goals as goal

pub returns-then-has_key-clause-exists : goal.returns-then-has_key-clause-exists
returns-then-has_key-clause-exists c =
    let has = rw (c.deref.ensures.value, c.self.view_is) at c.has_key.ensures in
    (λ is. HasKey-value network_cmp network_cmp_total network_same c.args.self.now c.args.key (has.0 c.if-has_key.true), λ there. refl)

pub returns-in_err-reserve-clause-exists : goal.returns-in_err-reserve-clause-exists
returns-in_err-reserve-clause-exists c =
    let has = rw (c.deref.ensures.value, c.self.view_is) at c.has_key.ensures in (
      λ is. absurd (only_memory c.from_residual.result c.from_residual.ensures.1 is),
      λ there. let yes_there = has.1 (value-HasKey network_cmp network_cmp_total network_same c.args.self.now c.args.key there) in let none = c.if-has_key.false in cc,
    )

no_value : {X : Type 0} (o : Option X) → (is_some o ≡ true → false ≡ true) → o ≡ None
no_value None h = refl
no_value (Some x) h = let is = h refl in cc

pub put_prefix-requires-clause-division : goal.put_prefix-requires-clause-division
put_prefix-requires-clause-division c =
    rw c.reserve.ensures.items (kept_division c.self.inside.entries.items c.self.inside.pieces.items c.self.invariant.kept)

pub invariant_of-self-in-Ok : goal.invariant_of-self-in-Ok
invariant_of-self-in-Ok c =
    let has = rw (c.deref.ensures.value) at c.has_key.ensures in
    let fresh : value_of network_cmp c.self.inside.entries.items c.args.key ≡ None = no_value (value_of network_cmp c.self.inside.entries.items c.args.key) (λ some. let yes_there = has.1 some in let none = c.if-has_key.false in cc) in
    let kept : AreKept c.self.inside.entries.items c.reserve.new.self.items = rw c.reserve.ensures.items c.self.invariant.kept in
    let lawful = entries_put c.self.inside.entries.items c.args.key c.args.value c.self.invariant.lawful c.put_prefix.ensures.network (rw c.in-Ok.ensures.ok at c.in-Ok.ensures.ordered) in
    rw c.in-Ok.ensures.ok (record { lawful = lawful; kept = c.put_prefix.ensures.kept c.self.inside.entries.items c.self.invariant.lawful fresh kept })

pub returns-in-Ok-clause-exists : goal.returns-in-Ok-clause-exists
returns-in-Ok-clause-exists c =
    let has = rw (c.deref.ensures.value, c.self.view_is) at c.has_key.ensures in
    (λ is. cc, λ there. let yes_there = has.1 (value-HasKey network_cmp network_cmp_total network_same c.args.self.now c.args.key there) in let none = c.if-has_key.false in cc)

pub returns-in-Err-clause-exists : goal.returns-in-Err-clause-exists
returns-in-Err-clause-exists c =
    let exists = rw c.self.view_is at c.in-Err.ensures.exists in
    (λ is. HasKey-value network_cmp network_cmp_total network_same c.args.self.now c.args.key (exists.0 is), λ there. exists.1 (value-HasKey network_cmp network_cmp_total network_same c.args.self.now c.args.key there))
