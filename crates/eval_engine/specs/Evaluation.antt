-- What an evaluation comes to, given the replies to its asks.
use Rattle.std.specs.Prelude.{ℕ, Bool, true, false, if◌then◌else◌, List, [], ◌∷◌, ◌++◌}
use Rattle.fw_rule.specs.declared.rule.Rule.{Rule}
use Rattle.state_asks.specs.declared.op.Op.{Op}
use Rattle.state_asks.specs.declared.op.Op.TheVariants.{Lookup, Install}
use Rattle.state_asks.specs.declared.reply.Reply.{Reply}
use Rattle.state_asks.specs.declared.reply.Reply.TheVariants.{Found, NotFound, Created, Exists, LimitReached, TableFull}
use Rattle.generation_store.specs.Published.{has_identity}
use Rattle.eval_engine.specs.Evaluated.{Evaluated, Outcome, Whole, OpenAt, Neither}
use Rattle.eval_engine.specs.Question.{Question, rules_of}
use Rattle.eval_engine.specs.Trace.{Stop, EndsWith, WaitsFor, Mismatch, Trace, hits_of, stop_of_trace}
use Rattle.eval_engine.specs.Walk.{first_trace, trace_after_reply}

-- A reply that is one to the ask: a state of a rule of the list that was found, or none, to a lookup; one
-- of the other four to an install.
abbrev pub is_reply_to : List Rule → Op → Reply → Bool
is_reply_to rules (Lookup flags flow second name) (Found way rule) = has_identity rules rule.id
is_reply_to rules (Lookup flags flow second name) NotFound = true
is_reply_to rules (Lookup flags flow second name) Created = false
is_reply_to rules (Lookup flags flow second name) Exists = false
is_reply_to rules (Lookup flags flow second name) (LimitReached count) = false
is_reply_to rules (Lookup flags flow second name) (TableFull count) = false
is_reply_to rules (Install flags flow second rule limit name) (Found way found) = false
is_reply_to rules (Install flags flow second rule limit name) NotFound = false
is_reply_to rules (Install flags flow second rule limit name) Created = true
is_reply_to rules (Install flags flow second rule limit name) Exists = true
is_reply_to rules (Install flags flow second rule limit name) (LimitReached count) = true
is_reply_to rules (Install flags flow second rule limit name) (TableFull count) = true

-- how far an evaluation is: its asks and the counter numbers of its hits so far, and how it stops
pub record Progress : Type 0 where
  pub asks : List Op
  pub hits : List ℕ
  pub stop : Stop

-- the ask that the evaluation waits for, if any
abbrev pub asks_at_stop : Stop → List Op
asks_at_stop (EndsWith judgement) = []
asks_at_stop (WaitsFor op pause) = op ∷ []
asks_at_stop Mismatch = []

-- how far an evaluation is that goes through this trace behind these asks and hits
abbrev pub progress_by : List Op → List ℕ → Trace → Progress
progress_by asks hits trace = record { asks = asks ++ asks_at_stop (stop_of_trace trace); hits = hits ++ hits_of trace; stop = stop_of_trace trace }

-- a reply where none is due, and one that isn't one to the ask, leaves the evaluation neither open nor whole
abbrev pub progress_after_reply : Question → List Op → List ℕ → Reply → Stop → Progress
progress_after_reply q asks hits reply (EndsWith judgement) = record { asks = asks; hits = hits; stop = Mismatch }
progress_after_reply q asks hits reply (WaitsFor op pause) =
    if is_reply_to (rules_of q) op reply then progress_by asks hits (trace_after_reply q pause reply)
    else record { asks = asks; hits = hits; stop = Mismatch }
progress_after_reply q asks hits reply Mismatch = record { asks = asks; hits = hits; stop = Mismatch }

-- each reply moves the evaluation on
unfoldable pub progress_from : Question → Progress → List Reply → Progress
progress_from q progress [] = progress
progress_from q progress (reply ∷ replies) = progress_from q (progress_after_reply q progress.asks progress.hits reply progress.stop) replies

-- how far the evaluation is after these replies
abbrev pub progress_of : Question → List Reply → Progress
progress_of q replies = progress_from q (progress_by [] [] (first_trace q)) replies

-- how the evaluation ended, by how it stops
abbrev pub outcome_of : Stop → Outcome
outcome_of (EndsWith judgement) = Whole judgement
outcome_of (WaitsFor op pause) = OpenAt op
outcome_of Mismatch = Neither

-- what an evaluation that is so far comes to
abbrev pub progress_result : Progress → Evaluated
progress_result progress = record { asks = progress.asks; hits = progress.hits; outcome = outcome_of progress.stop }

-- what an evaluation comes to, given the replies to its asks
unfoldable pub evaluate : Question → List Reply → Evaluated
evaluate q replies = progress_result (progress_of q replies)
