use Rattle.std.proofs.Common.{◌≡◌, length, arith}
use Rattle.std.proofs.lemmas.Grind.{common_steps}
use Rattle.std.proofs.lemmas.List.{nil_from_length}
use Rattle.report_page.proofs.BinLaws.{cuts_step, cuts_all, cut_sums}
use Rattle.report_page.proofs.bins.bins_of.Goals as goal

pub loop-rest-preserved : goal.loop-rest-preserved
loop-rest-preserved c =
    cuts_step c.args.size c.min.result c.args.shades.now c.loop-rest.rest.now c.split_at.result.0.now c.split_at.result.1.now
    c.loop-rest.bins.items c.push.new.self.items c.bin_of.result c.min.ensures c.split_at.ensures.front c.split_at.ensures.back c.bin_of.ensures
    c.in_ok-push.ensures.items c.loop-rest.invariant

pub returns-clause-cut : goal.returns-clause-cut
returns-clause-cut c =
    let none : length c.loop-rest.rest.now ≡ 0 = grind (arith, common_steps) in
    cuts_all c.args.size c.args.shades.now c.loop-rest.rest.now c.loop-rest.bins.items (nil_from_length c.loop-rest.rest.now none) c.loop-rest.invariant

pub returns-clause-all : goal.returns-clause-all
returns-clause-all c =
    let none : length c.loop-rest.rest.now ≡ 0 = grind (arith, common_steps) in
    cut_sums c.args.size c.args.shades.now c.loop-rest.bins.items
    (cuts_all c.args.size c.args.shades.now c.loop-rest.rest.now c.loop-rest.bins.items (nil_from_length c.loop-rest.rest.now none) c.loop-rest.invariant)
