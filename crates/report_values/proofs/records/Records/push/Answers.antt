use Rattle.std.proofs.Common.{◌≡◌}
use Rattle.report_values.specs.Records.{entries_at}
use Rattle.report_values.proofs.RecordPlaces.{new_more}
use Rattle.report_values.proofs.records.Records.push.Goals as goal

pub returns : goal.returns
returns c =
    let grown = c.in_ok-place.ensures.behind in
    let is : entries_at c.self.inside.kinds.items c.self.inside.places.items ≡ c.args.self.now = cc (c.self.view_is) in
    new_more c.self.inside.kinds.items c.add_kind.new.kinds.items c.self.inside.places.items c.push-2.new.self.items c.in_ok-place.place
    c.args.entry c.args.self.now c.self.invariant.0 grown.0 grown.1 c.in_ok-push-2.ensures.items is
