-- How far an evaluation is after a call.
use Rattle.std.specs.Prelude.{◌≡◌, ℕ, ◌<◌, length, Bool, true, if◌then◌else◌, IsTrue, ⊤, Option, Some, None, List, [], ◌∷◌, ◌++◌, drop, slice_set}
use Rattle.counter_book.specs.Counts.{counted_under, count_after_packet}
use Rattle.counter_book.specs.declared.tally.Count.{Count}
use Rattle.state_asks.specs.Flags.{HasKeptFlags}
use Rattle.state_asks.specs.declared.op.FlowName.{FlowName}
use Rattle.state_asks.specs.declared.op.FlowName.TheVariants.{Any, Named}
use Rattle.state_asks.specs.declared.op.Op.{Op}
use Rattle.state_asks.specs.declared.op.Op.TheVariants.{Lookup, Install}
use Rattle.state_asks.specs.declared.reply.Reply.{Reply}
use Rattle.fw_rule.specs.Bits.{has_bit}
use Rattle.fw_rule.specs.declared.rule.Rule.{Rule}
use Rattle.generation_store.specs.Published.{has_identity}
use Rattle.ip6_headers.specs.Either.{total_of}
use Rattle.eval_engine.specs.Callers.{innermost_first}
use Rattle.eval_engine.specs.Evaluated.{Outcome, Whole, OpenAt}
use Rattle.eval_engine.specs.Evaluation.{evaluate, progress_of}
pub use Rattle.eval_engine.specs.Evaluation.{is_reply_to}
use Rattle.eval_engine.specs.Question.{Question, rules_of}
use Rattle.eval_engine.specs.Trace.{Seen, Done, Names, Pause, Stop, EndsWith, WaitsFor}
use Rattle.eval_engine.specs.Walk.{pause_at}
use Rattle.eval_engine.specs.declared.callers.Callers.{Callers}
use Rattle.eval_engine.specs.declared.judgement.Judgement.{Judgement}
use Rattle.eval_engine.specs.declared.paused.Paused.{Paused}
use Rattle.eval_engine.specs.declared.searched.Searched.{Searched}

-- an install asks for a rule of the list
abbrev pub InstallsRuleOf : List Rule → Op → Type 0
InstallsRuleOf rules (Lookup flags flow second name) = ⊤
InstallsRuleOf rules (Install flags flow second rule limit name) = IsTrue (has_identity rules rule.id)

-- the counts of a tally after one packet of so many bytes under each of these counter numbers
unfoldable pub counts_after : ℕ → List ℕ → List Count → List Count
counts_after bytes [] counts = counts
counts_after bytes (counter ∷ hits) counts = counts_after bytes hits (slice_set counts counter (count_after_packet (counted_under counts counter) bytes))

-- the tally has a count under each counter number of the rules
abbrev pub IsTallyFor : Question → List Count → Type 0
IsTallyFor q counts = q.edition.config.greatest_counter < length counts

-- what a paused evaluation asks
abbrev pub asked_by : Paused → Op
asked_by paused = paused.position.ask

-- an evaluation with no judgement yet is open at its ask
abbrev pub outcome_at : Option Judgement → Paused → Outcome
outcome_at (Some judgement) paused = Whole judgement
outcome_at None paused = OpenAt (asked_by paused)

-- the ask that has no reply yet
abbrev pub asks_at : Option Judgement → Paused → List Op
asks_at (Some judgement) paused = []
asks_at None paused = asked_by paused ∷ []

-- the flow names that were looked up, by the bits of a mask
abbrev pub is_searched : Searched → FlowName → Bool
is_searched searched Any = searched.any
is_searched searched (Named number) = has_bit searched.named number

-- the names that were looked up; nothing more is where a state was found
abbrev pub seen_by : Searched → Seen
seen_by searched = if searched.found then Done else Names (is_searched searched)

-- the numbers of the rules whose calls are open, the innermost first
abbrev pub callers_of : Callers → List ℕ
callers_of callers = innermost_first callers.numbers callers.depth

-- the pause that a paused evaluation stands for
abbrev pub pause_of : Question → Paused → Pause
pause_of q paused = pause_at (seen_by paused.searched) (callers_of paused.position.callers) (drop paused.position.place (rules_of q))

-- how the definition stops there
abbrev pub stop_at : Question → Option Judgement → Paused → Stop
stop_at q (Some judgement) paused = EndsWith judgement
stop_at q None paused = WaitsFor (asked_by paused) (pause_of q paused)

-- the reply is one to the ask that the evaluation is open at
abbrev pub AnswersOpenAsk : Question → Paused → Reply → Type 0
AnswersOpenAsk q paused reply = is_reply_to (rules_of q) (asked_by paused) reply ≡ true

-- an install that is asked names a rule of the edition, and of TCP's flags an ask has FIN, SYN and RST alone
abbrev pub IsAskOf : Question → Option Judgement → Paused → Type 0
IsAskOf q (Some judgement) paused = ⊤
IsAskOf q None paused = InstallsRuleOf (rules_of q) (asked_by paused) × HasKeptFlags (asked_by paused)

-- With these replies to the asks before it the evaluation has come to this judgement, or where there is none
-- to this pause, and the tally has risen from its start by exactly the hits so far.
pub record StandsAt (q : Question) (asks : List Op) (replies : List Reply) (start : List Count) (judged : Option Judgement) (paused : Paused) (tally : List Count) : Type 0 where
  pub asked : (evaluate q replies).asks ≡ asks ++ asks_at judged paused
  pub outcome : (evaluate q replies).outcome ≡ outcome_at judged paused
  pub tallied : tally ≡ counts_after (total_of q.packet) (evaluate q replies).hits start
  pub waiting : IsAskOf q judged paused
  pub stop : (progress_of q replies).stop ≡ stop_at q judged paused
