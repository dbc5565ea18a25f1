-- The lines of asks, read back.
use Rattle.std.specs.Prelude.{ℕ, ◌^◌, ◌≤◌, ◌<◌, nat_eq, if◌then◌else◌, Option, Some, None, List, codes}
use Rattle.std.specs.Cmp.Lexicographic.{pointwise}
use Rattle.packet_headers.specs.declared.flows.Flow.{Flow}
use Rattle.fw_rule.specs.FlowName.{IsFlowName}
use Rattle.fw_rule.specs.declared.state_opt.LimitMask.{LimitMask}
use Rattle.state_asks.specs.declared.rule_ref.RuleRef.{RuleRef}
use Rattle.state_asks.specs.declared.op.FlowName.{FlowName}
use Rattle.state_asks.specs.declared.op.FlowName.TheVariants.{Any, Named}
use Rattle.state_asks.specs.declared.op.Op.{Op}
use Rattle.state_asks.specs.declared.op.Op.TheVariants as op
use Rattle.state_asks.specs.declared.reply.Reply.{Reply}
use Rattle.state_asks.specs.declared.reply.Reply.TheVariants.{Found, NotFound, Created, Exists, LimitReached, TableFull}
use Rattle.state_asks.specs.Flags.{HasKeptFlags}
use Rattle.report_texts.specs.JournalText.{name_numbered, flow_of_ask}
use Rattle.state_asks.specs.Asked.{asked_second}
use Rattle.report_texts.specs.AskText.{asked_name}
use Rattle.fw_base.specs.Chain.{◌>>=◌}
use Rattle.report_reading.specs.Parts.{behind, positive_at, number_at}
use Rattle.report_reading.specs.FlowTexts.{IsFlow, IsNameText, name_at, flow_at}
use Rattle.report_reading.specs.AskParts.{question_at, flags_at, reply_in}
use Rattle.report_reading.specs.declared.ask_parts.Question.{Question}
use Rattle.report_reading.specs.declared.ask_parts.Question.TheVariants.{Lookup, Install}
use Rattle.report_reading.specs.declared.ask_lines.AskLine.{AskLine}

-- ---- what a line of an ask can tell

-- a rule by its identity alone, which is all that a line tells of it
abbrev pub identified_rule : RuleRef → RuleRef
identified_rule rule = record { id = rule.id; number = 0 }

-- a name has no number, since a line has the name itself; `any` stays
abbrev pub unnumbered_name : FlowName → FlowName
unnumbered_name Any = Any
unnumbered_name (Named name) = Named 0

-- what is asked, with its rule by the identity alone and its name without a number
abbrev pub printed_op : Op → Op
printed_op (op.Lookup flags flow second name) = op.Lookup flags flow second (unnumbered_name name)
printed_op (op.Install flags flow second rule limit name) = op.Install flags flow second (identified_rule rule) limit 0

-- what was answered, with its rule by the identity alone
abbrev pub printed_reply : Reply → Reply
printed_reply (Found way rule) = Found way (identified_rule rule)
printed_reply NotFound = NotFound
printed_reply Created = Created
printed_reply Exists = Exists
printed_reply (LimitReached count) = LimitReached count
printed_reply (TableFull count) = TableFull count

-- the name that a line has for a flow of this name is one that a flow may have
abbrev pub IsNamedFlow : List (List ℕ) → ℕ → Type 0
IsNamedFlow names name = IsNameText (name_numbered names name) × IsFlowName (name_numbered names name)

-- a lookup's name, or `any`
abbrev pub IsLookedUp : List (List ℕ) → FlowName → Type 0
IsLookedUp names Any = Unit {0}
IsLookedUp names (Named name) = IsNamedFlow names name

-- a limit is 1 to 65535
abbrev pub IsLimit : Option (LimitMask × ℕ) → Type 0
IsLimit None = Unit {0}
IsLimit (Some limit) = (1 ≤ limit.1) × (limit.1 ≤ 65535)

-- what an ask asks, in the ranges of its fields
abbrev pub IsQuestion : List (List ℕ) → Op → Type 0
IsQuestion names (op.Lookup flags flow second name) = IsLookedUp names name
IsQuestion names (op.Install flags flow second rule limit name) = (rule.id < 2 ^ 32) × (IsLimit limit × IsNamedFlow names name)

-- a reply in the ranges of its fields
abbrev pub IsReply : Reply → Type 0
IsReply (Found way rule) = rule.id < 2 ^ 32
IsReply NotFound = Unit {0}
IsReply Created = Unit {0}
IsReply Exists = Unit {0}
IsReply (LimitReached count) = count < 2 ^ 32
IsReply (TableFull count) = count < 2 ^ 32

-- an ask of a lane, 1 to 16, for its record of this number, in the ranges of its fields; of TCP's flags
-- FIN, SYN and RST alone
pub record IsAsk (names : List (List ℕ)) (lane at : ℕ) (asked : Op) (reply : Reply) : Type 0 where
  pub lane_first : 1 ≤ lane
  pub lane_last : lane ≤ 16
  pub first : 1 ≤ at
  pub last : at < 2 ^ 64
  pub second : asked_second asked < 2 ^ 32
  pub question : IsQuestion names asked
  pub flow : IsFlow (flow_of_ask asked)
  pub flags : HasKeptFlags asked
  pub answer : IsReply reply

-- what is read of an ask's line
pub record AskValue : Type 0 where
  pub lane : ℕ
  pub at : ℕ
  pub op : Op
  pub name : List ℕ
  pub reply : Reply

-- what a line tells of an ask
abbrev pub printed_ask : List (List ℕ) → ℕ → ℕ → Op → Reply → AskValue
printed_ask names lane at asked reply = record {
  lane = lane;
  at = at;
  op = printed_op asked;
  name = asked_name names asked;
  reply = printed_reply reply;
}

-- an ask's line as its value
abbrev pub value_of_ask : AskLine → AskValue
value_of_ask line = record { lane = line.lane; at = line.at; op = line.op; name = line.name.now; reply = line.reply }

-- ---- how it is read

-- the name that a lookup asks for
abbrev pub looked_up : List ℕ → FlowName
looked_up name = if pointwise nat_eq name (codes "any") then Any else Named 0

-- what is asked by these parts; an install of `any` is nothing
unfoldable pub op_of : Question → List ℕ → ℕ → Flow → ℕ → Option Op
op_of Lookup name flags flow second = Some (op.Lookup flags flow second (looked_up name))
op_of (Install id limit) name flags flow second =
    if pointwise nat_eq name (codes "any") then None else Some (op.Install flags flow second (record { id = id; number = 0 }) limit 0)

-- the value of these parts
abbrev pub ask_value : ℕ → ℕ → List ℕ → Op → Reply → AskValue
ask_value lane at name asked reply = record { lane = lane; at = at; op = asked; name = name; reply = reply }

-- the ask behind a record's numbers and a second, to the line's end
unfoldable pub asked_in : ℕ → ℕ → ℕ → List ℕ → Option AskValue
asked_in lane at second bytes = do
  question ← question_at bytes
  name ← name_at question.1
  flow ← flow_at name.1
  flags ← flags_at flow.1
  asked ← op_of question.0 name.0 flags.0 flow.0 second
  reply ← reply_in flags.1
  Some (ask_value lane at name.0 asked reply)

-- the line of an ask
unfoldable pub ask_in : List ℕ → Option AskValue
ask_in line = do
  front ← behind (codes "ask ") line
  lane ← positive_at 16 front
  point ← behind (codes ".") lane.1
  at ← positive_at 18446744073709551615 point
  gap ← behind (codes " ") at.1
  second ← number_at 4294967295 gap
  asked_in lane.0 at.0 second.0 second.1
