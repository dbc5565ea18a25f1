-- An ask's line has the flow's name between two parts whose length is bounded.
use Rattle.std.specs.Prelude.{◌≡◌, ℕ, Option, Some, None, List, ◌++◌, codes, decimal}
use Rattle.rule_text.specs.Canonical.{mask_word}
use Rattle.fw_rule.specs.declared.state_opt.LimitMask.{LimitMask}
use Rattle.state_asks.specs.declared.op.Op.{Op}
use Rattle.state_asks.specs.declared.op.Op.TheVariants.{Lookup, Install}
use Rattle.state_asks.specs.declared.reply.Reply.{Reply}
use Rattle.state_texts.specs.StateTexts.{flow_text}
use Rattle.state_asks.specs.Flags.{asked_flags}
use Rattle.report_texts.specs.JournalText.{name_numbered, name_word, ask_line, ask_start, ask_end, flow_of_ask}
use Rattle.state_asks.specs.Asked.{asked_second}

-- the name of the flow that is asked for
abbrev pub asked_name : List (List ℕ) → Op → List ℕ
asked_name names (Lookup flags flow second name) = name_word names name
asked_name names (Install flags flow second rule limit name) = name_numbered names name

-- what an install asks for, as far as the name
unfoldable pub install_start : ℕ → Option (LimitMask × ℕ) → List ℕ
install_start id None = codes " install " ++ (decimal id ++ codes " keep :")
install_start id (Some limit) =
    codes " install " ++ (decimal id ++ (codes " limit " ++ (mask_word limit.0 ++ (codes " " ++ (decimal limit.1 ++ codes " :")))))

-- what is asked, as far as the name
abbrev pub question_start : Op → List ℕ
question_start (Lookup flags flow second name) = codes " lookup :"
question_start (Install flags flow second rule limit name) = install_start rule.id limit

-- the line as far as the name
unfoldable pub ask_front : ℕ → ℕ → Op → List ℕ
ask_front lane at op = ask_start lane at (asked_second op) ++ question_start op

-- the line behind the name
unfoldable pub ask_rest : Op → Reply → List ℕ
ask_rest op reply = flow_text (flow_of_ask op) ++ ask_end (asked_flags op) reply

-- an ask's line is the part before the name, the name, and the part behind it
abbrev pub AskLinesAreTheirParts : Type 0
AskLinesAreTheirParts = (names : List (List ℕ)) (lane at : ℕ) (op : Op) (reply : Reply)
    → ask_line names lane at op reply ≡ ask_front lane at op ++ (asked_name names op ++ ask_rest op reply)
