use Rattle.std.proofs.Common.{◌≡◌, ℕ, ◌||◌, nat_eq, ◌+◌, ◌<◌, ◌≤◌, ◌^◌, length, sym, subst, inl, inr, refl, arith, rules}
use Rattle.fw_base.specs.Prefix.{size_of}
use Rattle.lookup_tables.specs.AddrTable.{network_cmp}
use Rattle.lookup_tables.specs.Change.{AreChanged}
use Rattle.lookup_tables.specs.Entries.{without_key}
use Rattle.lookup_tables.specs.Pieces.{is_end, deciding_entry, decided_within, IsIn, HaveEnds, AreEntries}
use Rattle.lookup_tables.specs.declared.change.Change.TheVariants.{Take}
use Rattle.lookup_tables.proofs.Cuts.{change_ends}
use Rattle.lookup_tables.proofs.Takes.{range_of, take_tells, ends_left, ends_low, left_kept, same_or_end}
use Rattle.lookup_tables.proofs.intervals.take_prefix.Goals as goal

pub join_at-requires : goal.join_at-requires
join_at-requires c = c.change_pieces.ensures.division c.requires.division

pub join_at-requires-in-None : goal.join_at-requires-in-None
join_at-requires-in-None c = c.change_pieces-in-None.ensures.division c.requires.division

pub returns-in-Some : goal.returns-in-Some
returns-in-Some c = λ es h some there is kept.
    let n = c.args.prefix in
    let rest = without_key network_cmp es n in
    let low : c.address-2.result.0 < 2 ^ 32 = search rules in
    let high : c.in-Some.address.0 < 2 ^ 32 = search rules in
    let lo : c.address-2.result.0 ≡ n.address = c.address-2.ensures in
    let hi : c.in-Some.address.0 ≡ n.address + size_of n.bits = c.in-Some.ensures.end in
    let here : IsIn c.args.pieces.now.items n.address c.place_in-start.result = rw (c.deref.ensures.value, lo) at c.place_in-start.ensures in
    let at_end : IsIn c.args.pieces.now.items (n.address + size_of n.bits) c.place_in-end.result = rw (c.deref-in-Some.ensures.value, hi) at c.place_in-end.ensures in
    let (range, up) = range_of es n h there c.args.pieces.now.items c.place_in-start.result c.place_in-end.result c.requires.division (kept.tells some) (omega arith) here (inr ((omega arith), at_end)) in
    let next : c.longest_within-next.result ≡ decided_within rest n.address n.bits = rw (c.address.ensures, c.length.ensures.value, is) at c.longest_within-next.ensures in
    let change : AreChanged (Take n (decided_within rest n.address n.bits)) c.args.pieces.now.items c.change_pieces.new.pieces.items c.place_in-start.result c.place_in-end.result = rw next at (c.change_pieces.ensures.changed up) in
    let lawful : AreEntries rest = rw is at c.requires.entries in
    let tells = take_tells es n h there c.args.pieces.now.items c.change_pieces.new.pieces.items c.place_in-start.result c.place_in-end.result c.requires.division (kept.tells some) range change in
    let ends = change_ends (Take n (decided_within rest n.address n.bits)) c.args.pieces.now.items c.change_pieces.new.pieces.items c.place_in-start.result c.place_in-end.result change
    (λ a. (is_end rest a || nat_eq a n.address) || nat_eq a (n.address + size_of n.bits)) (ends_left es n h there c.args.pieces.now.items kept.ends) in
    let ends_end = subst (λ (x : ℕ). HaveEnds (λ a. (is_end rest a || nat_eq a n.address) || nat_eq a x) c.change_pieces.new.pieces.items) (sym hi) ends in
    let tells_joined = c.join_at.ensures.tells (deciding_entry rest) tells in
    let ends_joined = c.join_at.ensures.ends (λ a. is_end rest a || nat_eq a n.address) (deciding_entry rest) tells ends_end refl
    (λ above. elim (same_or_end rest lawful c.in-Some.address.0 above) [ inl same ↦ inl same | inr e ↦ inr (rw e refl) ]) in
    let ends_start = subst (λ (x : ℕ). HaveEnds (λ a. is_end rest a || nat_eq a x) c.join_at.new.pieces.items) (sym c.address-in-Some.ensures) ends_joined in
    let nonempty : 0 < length c.args.entries.now = search rules in
    rw is (left_kept rest c.join_at-in-Some.new.pieces.items (rw is at nonempty) c.join_at-in-Some.ensures.division (c.join_at-in-Some.ensures.tells (deciding_entry rest) tells_joined)
    (c.join_at-in-Some.ensures.ends (is_end rest) (deciding_entry rest) tells_joined ends_start refl (same_or_end rest lawful c.address-in-Some.result.0)))

pub returns-in-None : goal.returns-in-None
returns-in-None c = λ es h some there is kept.
    let n = c.args.prefix in
    let rest = without_key network_cmp es n in
    let low : c.address-2.result.0 < 2 ^ 32 = search rules in
    let lo : c.address-2.result.0 ≡ n.address = c.address-2.ensures in
    let high : 2 ^ 32 ≤ n.address + size_of n.bits = c.in-None.ensures.end in
    let whole : c.len-end.result ≡ length c.args.pieces.now.items = search rules in
    let here : IsIn c.args.pieces.now.items n.address c.place_in-start.result = rw (c.deref.ensures.value, lo) at c.place_in-start.ensures in
    let (range, up) = range_of es n h there c.args.pieces.now.items c.place_in-start.result c.len-end.result c.requires.division (kept.tells some) (omega arith) here (inl (whole, high)) in
    let next : c.longest_within-next.result ≡ decided_within rest n.address n.bits = rw (c.address.ensures, c.length.ensures.value, is) at c.longest_within-next.ensures in
    let change : AreChanged (Take n (decided_within rest n.address n.bits)) c.args.pieces.now.items c.change_pieces-in-None.new.pieces.items c.place_in-start.result c.len-end.result = rw next at (c.change_pieces-in-None.ensures.changed up) in
    let lawful : AreEntries rest = rw is at c.requires.entries in
    let division = c.change_pieces-in-None.ensures.division c.requires.division in
    let tells = take_tells es n h there c.args.pieces.now.items c.change_pieces-in-None.new.pieces.items c.place_in-start.result c.len-end.result c.requires.division (kept.tells some) range change in
    let ends = change_ends (Take n (decided_within rest n.address n.bits)) c.args.pieces.now.items c.change_pieces-in-None.new.pieces.items c.place_in-start.result c.len-end.result change
    (λ a. (is_end rest a || nat_eq a n.address) || nat_eq a (n.address + size_of n.bits)) (ends_left es n h there c.args.pieces.now.items kept.ends) in
    let ends_joined = ends_low (λ a. is_end rest a || nat_eq a n.address) (n.address + size_of n.bits) c.change_pieces-in-None.new.pieces.items division high ends in
    let ends_start = subst (λ (x : ℕ). HaveEnds (λ a. is_end rest a || nat_eq a x) c.change_pieces-in-None.new.pieces.items) (sym c.address-in-None.ensures) ends_joined in
    let nonempty : 0 < length c.args.entries.now = search rules in
    rw is (left_kept rest c.join_at-in-None.new.pieces.items (rw is at nonempty) c.join_at-in-None.ensures.division (c.join_at-in-None.ensures.tells (deciding_entry rest) tells)
    (c.join_at-in-None.ensures.ends (is_end rest) (deciding_entry rest) tells ends_start refl (same_or_end rest lawful c.address-in-None.result.0)))
