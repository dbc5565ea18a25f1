use Rattle.std.proofs.Common.{ap}
use Rattle.run_audit.proofs.DocketPlaces.{entered_there, on_ok_map, refused_there}
use Rattle.run_audit.proofs.judging.enter_at.Goals as goal

pub returns-clause-entered : goal.returns-clause-entered
returns-clause-entered c =
    on_ok_map _ _ c.push.result (λ is. entered_there c.args.dockets.now.items c.args.place c.index_mut.result.now c.push.new.self _ c.args.entry c.requires c.index_mut.ensures.value is) c.push.ensures.entered

pub returns-clause-refused : goal.returns-clause-refused
returns-clause-refused c =
    on_ok_map _ _ c.push.result (λ is. refused_there c.args.dockets.now.items c.args.place c.index_mut.result.now c.push.new.self _ c.index_mut.ensures.value (ap (λ d. d.refused) is)) c.push.ensures.entered
