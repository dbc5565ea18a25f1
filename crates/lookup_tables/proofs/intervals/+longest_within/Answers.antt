use Rattle.std.proofs.Common.{◌≡◌, ℕ, zero, suc, ◌-◌, ◌<◌, None, Some, get_or, refl, sym, ap, ◌∙◌, arith, rules}
use Rattle.fw_base.specs.Prefix.{Network, network}
use Rattle.lookup_tables.specs.AddrTable.{AddrEntries, network_cmp}
use Rattle.lookup_tables.specs.Entries.{value_of}
use Rattle.lookup_tables.specs.Pieces.{decided_within}
use Rattle.lookup_tables.proofs.Networks.{network_cmp_total}
use Rattle.lookup_tables.proofs.Places.{value_of-place, value_of-gap}
use Rattle.lookup_tables.proofs.intervals.+longest_within.Goals as goal

found : (es : AddrEntries) (a bits v : ℕ) → value_of network_cmp es (network a bits) ≡ Some v → decided_within es a bits ≡ Some (network a bits, v)
unfolding decided_within
found es a zero v is = rw is refl
found es a (suc bits) v is = rw is refl

missing_last : (es : AddrEntries) (a bits : ℕ) → bits ≡ 0 → value_of network_cmp es (network a bits) ≡ None → decided_within es a bits ≡ None
unfolding decided_within
missing_last es a zero last is = rw is refl
missing_last es a (suc bits) last is = absurd (omega arith)

missing : (es : AddrEntries) (a bits : ℕ) → 0 < bits → value_of network_cmp es (network a bits) ≡ None → decided_within es a bits ≡ decided_within es a (bits - 1)
unfolding decided_within
missing es a zero more is = absurd (omega arith)
missing es a (suc bits) more is = rw is (ap (decided_within es a) (let e : bits ≡ suc bits - 1 = omega arith in e))

pub returns-in-Ok : goal.returns-in-Ok
returns-in-Ok t c =
    let key : c.in-Some.key ≡ network c.args.address.0 c.args.bits = search rules in
    let value = value_of-place network_cmp network_cmp_total c.args.entries.now c.in-Some.key c.in-Ok.place c.index-entries-place.result c.in-Ok.ensures in
    ap (λ (n : Network). Some (n, (get_or c.args.entries.now c.in-Ok.place c.index-entries-place.result).1)) key
    ∙ sym (found c.args.entries.now c.args.address.0 c.args.bits (get_or c.args.entries.now c.in-Ok.place c.index-entries-place.result).1 (rw key at value))

pub returns-then-bits-eq0 : goal.returns-then-bits-eq0
returns-then-bits-eq0 t c =
    let key : c.in-Some.key ≡ network c.args.address.0 c.args.bits = search rules in
    let none = value_of-gap network_cmp network_cmp_total c.args.entries.now c.in-Some.key c.in-Err.field-0 c.requires.entries.ordered c.in-Err.ensures in
    sym (missing_last c.args.entries.now c.args.address.0 c.args.bits c.if-bits-eq0.true (rw key at none))

pub returns-else-bits-eq0 : goal.returns-else-bits-eq0
returns-else-bits-eq0 t c =
    let key : c.in-Some.key ≡ network c.args.address.0 c.args.bits = search rules in
    let none = value_of-gap network_cmp network_cmp_total c.args.entries.now c.in-Some.key c.in-Err.field-0 c.requires.entries.ordered c.in-Err.ensures in
    c.longest_within.ensures ∙ sym (missing c.args.entries.now c.args.address.0 c.args.bits (let more = c.if-bits-eq0.false in omega arith) (rw key at none))
