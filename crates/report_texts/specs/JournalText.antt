-- The report's last sections: the hits of the caches, and the journal, version 2.
use Rattle.std.specs.Prelude.{ℕ, ◌+◌, Bool, true, false, Option, Some, None, List, [], ◌∷◌, ◌++◌, length, codes, decimal, slice_index_or}
use Rattle.std.specs.List.{flat_map}
use Rattle.packet_headers.specs.declared.flows.Flow.{Flow}
use Rattle.fw_rule.specs.Bits.{has_bit}
use Rattle.rule_text.specs.Canonical.{mask_word}
use Rattle.fw_rule.specs.declared.state_opt.LimitMask.{LimitMask}
use Rattle.state_texts.specs.StateTexts.{flow_text}
use Rattle.state_asks.specs.Asked.{asked_second}
use Rattle.state_asks.specs.Flags.{asked_flags}
use Rattle.state_asks.specs.declared.op.FlowName.{FlowName}
use Rattle.state_asks.specs.declared.op.FlowName.TheVariants.{Any, Named}
use Rattle.state_asks.specs.declared.op.Op.{Op}
use Rattle.state_asks.specs.declared.op.Op.TheVariants.{Lookup, Install}
use Rattle.state_asks.specs.declared.reply.Reply.{Reply}
use Rattle.state_asks.specs.declared.reply.Reply.TheVariants.{Found, NotFound, Created, Exists, LimitReached, TableFull}
use Rattle.state_asks.specs.declared.reply.Way.{Way}
use Rattle.state_asks.specs.declared.reply.Way.TheVariants.{Forward, Reverse}
use Rattle.eval_engine.specs.Dockets.{DocketValue}
use Rattle.state_journal.specs.declared.entry.Entry.{Entry}
use Rattle.state_journal.specs.declared.entry.Entry.TheVariants.{Publish, Ask}

-- how often the cache of a lane had the judgement
unfoldable pub hits_line : ℕ → ℕ → List ℕ
hits_line lane hits = codes "cache " ++ (decimal lane ++ (codes " hits " ++ (decimal hits ++ codes "\n")))

-- the lines of hits of the lanes from this number on
unfoldable pub hits_text : ℕ → List ℕ → List ℕ
hits_text lane [] = []
hits_text lane (hits ∷ rest) = hits_line lane hits ++ hits_text (lane + 1) rest

-- a flow name by its number
abbrev pub name_numbered : List (List ℕ) → ℕ → List ℕ
name_numbered names name = slice_index_or names name []

-- a flow name, or `any`
abbrev pub name_word : List (List ℕ) → FlowName → List ℕ
name_word names Any = codes "any"
name_word names (Named name) = name_numbered names name

-- what a lookup asks for: a state of this name
unfoldable pub lookup_text : List (List ℕ) → FlowName → List ℕ
lookup_text names name = codes " lookup :" ++ name_word names name

-- what an install asks for: a state of this name, made by the rule of this identity
unfoldable pub install_text : List (List ℕ) → ℕ → Option (LimitMask × ℕ) → ℕ → List ℕ
install_text names id None name = codes " install " ++ (decimal id ++ (codes " keep :" ++ name_numbered names name))
install_text names id (Some limit) name =
    codes " install " ++ (decimal id ++ (codes " limit " ++ (mask_word limit.0 ++ (codes " " ++ (decimal limit.1 ++ (codes " :" ++ name_numbered names name))))))

-- the TCP flags FIN, SYN and RST that are set (RFC 9293 section 3.1); a dash where none is
abbrev pub flag_letters : Bool → Bool → Bool → List ℕ
flag_letters false false false = codes "-"
flag_letters true false false = codes "F"
flag_letters false true false = codes "S"
flag_letters true true false = codes "FS"
flag_letters false false true = codes "R"
flag_letters true false true = codes "FR"
flag_letters false true true = codes "SR"
flag_letters true true true = codes "FSR"

-- the letters of the flags that are set
abbrev pub flags_word : ℕ → List ℕ
flags_word flags = flag_letters (has_bit flags 0) (has_bit flags 1) (has_bit flags 2)

-- the direction in which a state was found
abbrev pub way_word : Way → List ℕ
way_word Forward = codes "forward"
way_word Reverse = codes "reverse"

-- what was answered, and the line's end
unfoldable pub reply_end : Reply → List ℕ
reply_end (Found way rule) = codes "found " ++ (decimal rule.id ++ (codes " " ++ (way_word way ++ codes "\n")))
reply_end NotFound = codes "notfound\n"
reply_end Created = codes "created\n"
reply_end Exists = codes "exists\n"
reply_end (LimitReached count) = codes "limit " ++ (decimal count ++ codes "\n")
reply_end (TableFull count) = codes "full " ++ (decimal count ++ codes "\n")

-- for which record, and its second
unfoldable pub ask_start : ℕ → ℕ → ℕ → List ℕ
ask_start lane at second = codes "ask " ++ (decimal lane ++ (codes "." ++ (decimal at ++ (codes " " ++ decimal second))))

-- the flags and the reply
unfoldable pub ask_end : ℕ → Reply → List ℕ
ask_end flags reply = codes " " ++ (flags_word flags ++ (codes " " ++ reply_end reply))

-- the flow that is asked for
abbrev pub flow_of_ask : Op → Flow
flow_of_ask (Lookup flags flow second name) = flow
flow_of_ask (Install flags flow second rule limit name) = flow

-- what is asked
abbrev pub op_text : List (List ℕ) → Op → List ℕ
op_text names (Lookup flags flow second name) = lookup_text names name
op_text names (Install flags flow second rule limit name) = install_text names rule.id limit name

-- the line of an ask
unfoldable pub ask_line : List (List ℕ) → ℕ → ℕ → Op → Reply → List ℕ
ask_line names lane at op reply = ask_start lane at (asked_second op) ++ (op_text names op ++ (flow_text (flow_of_ask op) ++ ask_end (asked_flags op) reply))

-- the line of a publication
unfoldable pub publish_line : ℕ → List ℕ
publish_line number = codes "publish " ++ (decimal number ++ codes "\n")

-- what the states met
abbrev pub entry_line : List (List ℕ) → Entry → List ℕ
entry_line names (Publish number) = publish_line number
entry_line names (Ask lane op reply at) = ask_line names lane at op reply

-- how many entries into a section were refused to a lane, and its tracker's word
unfoldable pub lane_line : ℕ → ℕ → ℕ → List ℕ
lane_line lane refused tracker = codes "lane " ++ (decimal lane ++ (codes " refused " ++ (decimal refused ++ (codes " tracker " ++ (decimal tracker ++ codes "\n")))))

-- the lines of the lanes from this number on
unfoldable pub lanes_text : ℕ → List DocketValue → List ℕ → List ℕ
lanes_text lane [] trackers = []
lanes_text lane (docket ∷ dockets) [] = []
lanes_text lane (docket ∷ dockets) (tracker ∷ trackers) = lane_line lane docket.refused tracker ++ lanes_text (lane + 1) dockets trackers

-- the text's version, and how many entries there are
unfoldable pub journal_heading : ℕ → List ℕ
journal_heading entries = codes "journal 2 " ++ (decimal entries ++ codes "\n")

-- the journal, and a line for each lane
unfoldable pub journal_text : List (List ℕ) → List Entry → List DocketValue → List ℕ → List ℕ
journal_text names entries dockets trackers = journal_heading (length entries) ++ (flat_map (entry_line names) entries ++ lanes_text 1 dockets trackers)

-- only where it is asked for
abbrev pub optional_journal : Bool → List (List ℕ) → List Entry → List DocketValue → List ℕ → List ℕ
optional_journal false names entries dockets trackers = []
optional_journal true names entries dockets trackers = journal_text names entries dockets trackers
