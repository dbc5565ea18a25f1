use Rattle.report_texts.proofs.AskParts.{ask_parts}
use Rattle.report_texts.proofs.laws.ask_lines_are_their_parts.Goals as goal

pub returns : goal.returns
returns c = ask_parts
