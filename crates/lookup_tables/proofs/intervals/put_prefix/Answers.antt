use Rattle.std.proofs.Common.{◌≡◌, ◌+◌, length, ◌∙◌, arith, rules}
use Rattle.fw_base.specs.Prefix.{size_of}
use Rattle.lookup_tables.specs.AddrTable.{network_cmp}
use Rattle.lookup_tables.specs.Entries.{with_entry}
use Rattle.lookup_tables.specs.Pieces.{is_end, deciding_entry}
use Rattle.lookup_tables.specs.declared.change.Change.TheVariants.{Put}
use Rattle.lookup_tables.proofs.Cuts.{changed_to}
use Rattle.lookup_tables.proofs.Puts.{AreReady, begun, begins_end, ends_end, ends_more, end_put_here, put_to_end, put_to_last}
use Rattle.lookup_tables.proofs.intervals.put_prefix.Goals as goal

pub returns-in-Some-clause-kept : goal.returns-in-Some-clause-kept
returns-in-Some-clause-kept c = λ es h fresh kept.
    let n = c.args.prefix in
    let v = c.args.value in
    let is = c.end_of.ensures.network in
    let first = begun es c.args.pieces.now.items c.begin.new.pieces.items kept c.begin.ensures.same c.begin.ensures.fresh c.begin.ensures.division in
    let more = ends_more es n v c.begin.new.pieces.items first.1 in
    let ready : AreReady es n v c.cut_at-start.new.pieces.items c.cut_at-start.result = record {
      division = c.cut_at-start.ensures.division;
      tells = c.cut_at-start.ensures.tells (deciding_entry es) first.0;
      ends = c.cut_at-start.ensures.ends (is_end (with_entry network_cmp es n v)) more (end_put_here es n v c.address.result.0 (begins_end n c.address.result.0 c.address.ensures));
      within = c.cut_at-start.ensures.within;
      begins = c.cut_at-start.ensures.begins ∙ c.address.ensures;
    } in
    let hi : c.in-Some.address.0 ≡ n.address + size_of n.bits = c.in-Some.ensures.end in
    put_to_end es n v h is fresh c.cut_at-start.new.pieces.items c.change_pieces.new.pieces.items c.cut_at-start.result ready
    c.cut_at-end.new.pieces.items c.cut_at-end.result c.cut_at-end.ensures.division (c.cut_at-end.ensures.tells (deciding_entry es) ready.tells)
    (c.cut_at-end.ensures.ends (is_end (with_entry network_cmp es n v)) ready.ends (end_put_here es n v c.in-Some.address.0 (ends_end n c.in-Some.address.0 hi)))
    c.cut_at-end.ensures.within (c.cut_at-end.ensures.begins ∙ hi) (λ k within less. c.cut_at-end.ensures.before k within (omega arith)) c.cut_at-end.ensures.longer c.change_pieces.ensures.changed

pub returns-in-None-clause-kept : goal.returns-in-None-clause-kept
returns-in-None-clause-kept c = λ es h fresh kept.
    let n = c.args.prefix in
    let v = c.args.value in
    let is = c.end_of.ensures.network in
    let first = begun es c.args.pieces.now.items c.begin.new.pieces.items kept c.begin.ensures.same c.begin.ensures.fresh c.begin.ensures.division in
    let more = ends_more es n v c.begin.new.pieces.items first.1 in
    let ready : AreReady es n v c.cut_at-start.new.pieces.items c.cut_at-start.result = record {
      division = c.cut_at-start.ensures.division;
      tells = c.cut_at-start.ensures.tells (deciding_entry es) first.0;
      ends = c.cut_at-start.ensures.ends (is_end (with_entry network_cmp es n v)) more (end_put_here es n v c.address.result.0 (begins_end n c.address.result.0 c.address.ensures));
      within = c.cut_at-start.ensures.within;
      begins = c.cut_at-start.ensures.begins ∙ c.address.ensures;
    } in
    let same : c.len-end.result ≡ length c.cut_at-start.new.pieces.items = search rules in
    put_to_last es n v h is fresh c.cut_at-start.new.pieces.items c.change_pieces-in-None.new.pieces.items c.cut_at-start.result ready c.in-None.ensures.end
    (λ le. changed_to (Put n v) c.cut_at-start.new.pieces.items c.change_pieces-in-None.new.pieces.items c.cut_at-start.result c.len-end.result (length c.cut_at-start.new.pieces.items) same (c.change_pieces-in-None.ensures.changed (omega arith)))
