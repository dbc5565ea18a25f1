use Rattle.report_texts.proofs.AskParts.{ask_parts}
use Rattle.fw_report.proofs.journal_lines.write_entry.Goals as goal

pub returns-in-Ask : goal.returns-in-Ask
returns-in-Ask g c =
    rw (c.in-Ask.is, ask_parts c.args.names.now c.in-Ask.lane c.in-Ask.at c.in-Ask.op c.in-Ask.reply, ← c.from.ensures, ← c.asked_name.ensures, ← c.put_ask_rest.ensures.items) c.write_ask.ensures
