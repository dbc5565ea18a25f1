-- The parts of an ask's line.
use Rattle.std.proofs.Common.{◌≡◌, ℕ, Some, None, List, ◌++◌, append_assoc}
use Rattle.state_asks.specs.declared.op.Op.{Op}
use Rattle.state_asks.specs.declared.op.Op.TheVariants.{Lookup, Install}
use Rattle.state_asks.specs.declared.reply.Reply.{Reply}
use Rattle.report_texts.specs.AskText.{asked_name, install_start, ask_front, ask_rest}
use Rattle.report_texts.specs.JournalText.{ask_line, lookup_text, install_text}

-- the line is its three parts
pub ask_parts : (names : List (List ℕ)) (lane at : ℕ) (op : Op) (reply : Reply)
    → ask_line names lane at op reply ≡ ask_front lane at op ++ (asked_name names op ++ ask_rest op reply)
unfolding ask_line lookup_text install_text ask_front install_start ask_rest
ask_parts names lane at (Lookup flags flow second name) reply = simp append_assoc
ask_parts names lane at (Install flags flow second rule None name) reply = simp append_assoc
ask_parts names lane at (Install flags flow second rule (Some limit) name) reply = simp append_assoc
