use Rattle.std.proofs.Common.{◌≡◌, Some, List, sym, ap, ◌∙◌}
use Rattle.std.specs.List.{find}
use Rattle.run_audit.specs.Indexes.{is_line_of_lane}
use Rattle.run_audit.specs.declared.told_report.ToldLane.{ToldLane}
use Rattle.run_audit.proofs.BehindSteps.{firsts_stay}
use Rattle.run_audit.proofs.lane_index.keep_first.Goals as goal

pub returns-in-Some : goal.returns-in-Some
returns-in-Some c =
    let found : find (is_line_of_lane c.args.one.told.lane) c.args.firsts.now.items ≡ Some c.in-Some.field-0 =
    ap (λ (lanes : List ToldLane). find (is_line_of_lane c.args.one.told.lane) lanes) (sym c.deref.ensures.value) ∙ sym c.first_of_lane.ensures ∙ c.in-Some.is in
    firsts_stay c.args.firsts.now.items c.args.one c.in-Some.field-0 found
