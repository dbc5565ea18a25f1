use Rattle.std.proofs.Common.{◌≡◌}
use Rattle.report_texts.specs.AnswerText.{refused_line}
use Rattle.fw_report.proofs.answer_lines.write_refused.Goals as goal

pub returns : goal.returns
unfolding refused_line
returns g c =
    let whole : refused_line c.args.line c.args.fault ≡ c.put_text-3.new.self = cc in
    rw whole c.write.ensures
