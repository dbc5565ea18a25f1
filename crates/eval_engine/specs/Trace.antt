-- What an evaluation goes through from one ask to the next (ipfw(8), "RULE ACTIONS").
use Rattle.std.specs.Prelude.{ℕ, suc, Bool, true, false, not, ◌&&◌, ◌||◌, ◌==◌, List, [], ◌∷◌}
use Rattle.fw_rule.specs.declared.rule.Rule.{Rule}
use Rattle.state_asks.specs.declared.op.FlowName.{FlowName}
use Rattle.state_asks.specs.declared.op.FlowName.TheVariants.{Any, Named}
use Rattle.state_asks.specs.declared.op.Op.{Op}
use Rattle.eval_engine.specs.declared.judgement.Judgement.{Judgement}

-- the flow names that were looked up; `Done` where a state was found, and no more is looked up
pub data Seen : Type 0 where
  Done : Seen
  Names : (FlowName → Bool) → Seen

-- two flow names are one
abbrev pub is_same_name : FlowName → FlowName → Bool
is_same_name Any Any = true
is_same_name Any (Named number) = false
is_same_name (Named number) Any = false
is_same_name (Named number) (Named other) = number == other

-- a name is due where neither it nor `:any` was looked up
abbrev pub is_name_due : Seen → FlowName → Bool
is_name_due Done name = false
is_name_due (Names names) name = not (names Any) && not (names name)

-- the names with this one
abbrev pub with_seen : Seen → FlowName → Seen
with_seen Done name = Done
with_seen (Names names) name = Names (λ other. names other || is_same_name name other)

-- nothing was looked up yet
abbrev pub no_names : Seen
no_names = Names (λ name. false)

-- where an evaluation waits: at the first rule of this suffix of the rules, within calls made by rules
-- of these numbers, the innermost first
pub record Pause : Type 0 where
  pub seen : Seen
  pub callers : List ℕ
  pub suffix : List Rule

-- how an evaluation stops: it ends, it waits for the reply to an ask, or a reply wasn't one to its ask
pub data Stop : Type 0 where
  EndsWith : Judgement → Stop
  WaitsFor : Op → Pause → Stop
  Mismatch : Stop

-- the rules on the way in turn: each is passed over, is counted, or stops the evaluation
pub data Trace : Type 0 where
  PassesOver : Trace → Trace
  Counts : ℕ → Trace → Trace
  Stops : Stop → Trace

-- the counter numbers of the trace's hits in order
unfoldable pub hits_of : Trace → List ℕ
hits_of (PassesOver trace) = hits_of trace
hits_of (Counts counter trace) = counter ∷ hits_of trace
hits_of (Stops stop) = []

-- how the trace stops
unfoldable pub stop_of_trace : Trace → Stop
stop_of_trace (PassesOver trace) = stop_of_trace trace
stop_of_trace (Counts counter trace) = stop_of_trace trace
stop_of_trace (Stops stop) = stop

-- how many rules are on the way before the trace stops
unfoldable pub length_of : Trace → ℕ
length_of (PassesOver trace) = suc (length_of trace)
length_of (Counts counter trace) = suc (length_of trace)
length_of (Stops stop) = 0
