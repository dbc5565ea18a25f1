use Rattle.std.proofs.Common.{◌≡◌, append-nil}
use Rattle.report_texts.specs.AskText.{ask_front}
use Rattle.fw_report.proofs.journal_lines.write_long_ask.Goals as goal

pub returns : goal.returns
returns g c =
    let bare = append-nil (ask_front c.args.lane c.args.at c.args.op.now) in
    let same : ask_front c.args.lane c.args.at c.args.op.now ≡ c.put_ask_front.new.line = cc in
    rw same c.write_around.ensures
