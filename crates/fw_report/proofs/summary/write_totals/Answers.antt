use Rattle.std.proofs.Common.{◌≡◌, ap}
use Rattle.std.specs.Fmt.{decimal}
use Rattle.report_texts.specs.Summary.{summary_text, records_in, judged_in, is_allow, is_deny}
use Rattle.fw_report.proofs.summary.write_totals.Goals as goal

pub returns : goal.returns
unfolding summary_text
returns g c =
    let records : decimal c.add_up-counted.result.records ≡ decimal (records_in c.args.dockets.now) = ap decimal c.add_up-counted.ensures.records in
    let allowed : decimal c.add_up-counted.result.allowed ≡ decimal (judged_in is_allow c.args.dockets.now) = ap decimal c.add_up-counted.ensures.allowed in
    let denied : decimal c.add_up-counted.result.denied ≡ decimal (judged_in is_deny c.args.dockets.now) = ap decimal c.add_up-counted.ensures.denied in
    let whole : summary_text c.args.dockets.now c.args.editions c.args.entries c.args.states ≡ c.put_text-7.new.self = cc in
    rw whole c.write.ensures
