-- First match with jumps, calls and asks, sentence by sentence (ipfw(8), "RULE ACTIONS", "STATEFUL FIREWALL").
use Rattle.std.specs.Prelude.{◌≡◌, ℕ, suc, ◌+◌, ◌<◌, ◌≤◌, ◌↔◌, true, false, ⊤, Option, Some, None, List, [], ◌∷◌, drop}
use Rattle.state_asks.specs.declared.reply.Reply.{Reply}
use Rattle.state_asks.specs.declared.reply.Reply.TheVariants.{Found, NotFound, Created, Exists, LimitReached, TableFull}
use Rattle.state_asks.specs.declared.rule_ref.RuleRef.{RuleRef}
use Rattle.state_asks.specs.declared.reply.Way.{Way}
use Rattle.fw_rule.specs.declared.action.Action.TheVariants.{Count, SkipTo, Call, Return, CheckState}
use Rattle.fw_rule.specs.declared.rule.Rule.{Rule}
use Rattle.fw_rule.specs.declared.state_opt.StateOpt.{StateOpt}
use Rattle.generation_store.specs.Jumps.{first_from}
use Rattle.packet_headers.specs.declared.flows.Flow.{Flow}
use Rattle.rule_chain.specs.Chain.{IsConfiguration}
use Rattle.eval_engine.specs.Encounter.{is_disabled, is_rule_met, is_check_state, state_of, any_flow_of, name_at, rule_ref, lookup_by, install_by}
use Rattle.eval_engine.specs.Evaluated.{Evaluated}
use Rattle.eval_engine.specs.Evaluation.{is_reply_to, evaluate}
use Rattle.eval_engine.specs.Laws.{verdict_of}
use Rattle.eval_engine.specs.Question.{Question}
use Rattle.eval_engine.specs.Trace.{Seen, Done, with_seen, no_names}
use Rattle.eval_engine.specs.Walk.{lookup_flow, suffix_of}
use Rattle.eval_engine.specs.declared.judgement.Cause.{Cause}
use Rattle.eval_engine.specs.declared.judgement.Cause.TheVariants as cause
use Rattle.eval_engine.specs.declared.judgement.Judgement.{Judgement}
use Rattle.eval_engine.specs.declared.judgement.Verdict.{Verdict}
use Rattle.eval_engine.specs.declared.judgement.Verdict.TheVariants as verdict
use Rattle.evaluation_laws.specs.Story.{Ending, Ends, OpensAt, Mistakes, Returns, Story, plain_story, story_with_ask, story_with_hit, stories_in_turn, told_by}

-- Where a run is: it meets the first rule of these, it tests this rule behind its lookup, or this rule acts; the rules
-- behind it stand after it.
pub data Moment : Type 0 where
  Meets : List Rule → Moment
  Tests : Rule → List Rule → Moment
  Acts : Rule → List Rule → Moment

-- the rules from the first one numbered so or higher on
abbrev pub rules_from : ℕ → List Rule → List Rule
rules_from number rules = drop (first_from number rules) rules

-- the verdict under this edition
abbrev pub judgement_under : Question → Verdict → RuleRef → Cause → Judgement
judgement_under q verdict rule cause = record { edition = q.edition.number; verdict = verdict; rule = rule; cause = cause }

-- rule 65535, which denies
abbrev pub last_judgement : Question → Judgement
last_judgement q = judgement_under q verdict.Deny (record { id = 0; number = 65535 }) cause.Rule

-- no deeper than the call
abbrev pub HasEnded : Ending → Type 0
HasEnded (Ends judgement left) = ⊤
HasEnded (OpensAt op) = ⊤
HasEnded Mistakes = ⊤
HasEnded (Returns seen left) = ⊥

-- At this depth of calls, with these names looked up and these replies to come, the run from this moment on has
-- this story.
pub data Runs (q : Question) : ℕ → Seen → Moment → List Reply → Story → Type 0 where
  -- Behind the last rule a packet is denied; a configuration ends with rule 65535, which denies what comes to it.
  BehindAll : (depth : ℕ) (seen : Seen) (replies : List Reply) → Runs q depth seen (Meets []) replies (plain_story (Ends (last_judgement q) replies))
  -- A rule of a disabled set is passed over.
  IsDisabled : (depth : ℕ) (seen : Seen) (rule : Rule) (rest : List Rule) (replies : List Reply) (story : Story)
      → is_disabled q rule ≡ true → Runs q depth seen (Meets rest) replies story → Runs q depth seen (Meets (rule ∷ rest)) replies story
  -- A rule that looks nothing up, whose name isn't due, or at a packet without a flow, is tested at once.
  IsUnasked : (depth : ℕ) (seen : Seen) (rule : Rule) (rest : List Rule) (replies : List Reply) (story : Story)
      → is_disabled q rule ≡ false → lookup_flow q seen rule ≡ None → Runs q depth seen (Tests rule rest) replies story → Runs q depth seen (Meets (rule ∷ rest)) replies story
  -- Any other asks for a state of its name: without a reply the run is open there.
  IsUnanswered : (depth : ℕ) (seen : Seen) (rule : Rule) (rest : List Rule) (flow : Flow)
      → is_disabled q rule ≡ false → lookup_flow q seen rule ≡ Some flow → Runs q depth seen (Meets (rule ∷ rest)) [] (story_with_ask (lookup_by q rule flow) (plain_story (OpensAt (lookup_by q rule flow))))
  -- If a state is found, the rule that made it acts, in its own place, and nothing more is looked up.
  IsFound : (depth : ℕ) (seen : Seen) (rule : Rule) (rest : List Rule) (flow : Flow) (maker : RuleRef) (way : Way) (found : Rule) (after : List Rule) (replies : List Reply) (story : Story)
      → is_disabled q rule ≡ false → lookup_flow q seen rule ≡ Some flow → is_reply_to q.edition.config.rules (lookup_by q rule flow) (Found way maker) ≡ true
      → suffix_of maker.id q.edition.config.rules ≡ found ∷ after → Runs q depth Done (Acts found after) replies story
      → Runs q depth seen (Meets (rule ∷ rest)) (Found way maker ∷ replies) (story_with_ask (lookup_by q rule flow) story)
  -- If none is found, the name is no more due, and the rule is tested.
  IsNotFound : (depth : ℕ) (seen : Seen) (rule : Rule) (rest : List Rule) (flow : Flow) (replies : List Reply) (story : Story)
      → is_disabled q rule ≡ false → lookup_flow q seen rule ≡ Some flow → Runs q depth (with_seen seen (name_at q rule)) (Tests rule rest) replies story
      → Runs q depth seen (Meets (rule ∷ rest)) (NotFound ∷ replies) (story_with_ask (lookup_by q rule flow) story)
  -- A reply that isn't one to the lookup.
  IsMistaken : (depth : ℕ) (seen : Seen) (rule : Rule) (rest : List Rule) (flow : Flow) (reply : Reply) (replies : List Reply)
      → is_disabled q rule ≡ false → lookup_flow q seen rule ≡ Some flow → is_reply_to q.edition.config.rules (lookup_by q rule flow) reply ≡ false
      → Runs q depth seen (Meets (rule ∷ rest)) (reply ∷ replies) (story_with_ask (lookup_by q rule flow) (plain_story Mistakes))
  -- A `check-state` goes on with the next rule.
  IsCheckState : (depth : ℕ) (seen : Seen) (rule : Rule) (rest : List Rule) (replies : List Reply) (story : Story)
      → is_check_state rule.action ≡ true → Runs q depth seen (Meets rest) replies story → Runs q depth seen (Tests rule rest) replies story
  -- So does a rule whose body doesn't hold,
  IsUnheld : (depth : ℕ) (seen : Seen) (rule : Rule) (rest : List Rule) (replies : List Reply) (story : Story)
      → is_check_state rule.action ≡ false → is_rule_met q rule ≡ false → Runs q depth seen (Meets rest) replies story → Runs q depth seen (Tests rule rest) replies story
  -- and one with `keep-state` or `limit` at a packet without a flow.
  IsFlowless : (depth : ℕ) (seen : Seen) (rule : Rule) (rest : List Rule) (state : StateOpt) (replies : List Reply) (story : Story)
      → is_check_state rule.action ≡ false → is_rule_met q rule ≡ true → state_of rule ≡ Some state → any_flow_of q.packet ≡ None
      → Runs q depth seen (Meets rest) replies story → Runs q depth seen (Tests rule rest) replies story
  -- A rule whose body holds acts, if it makes no state.
  IsStateless : (depth : ℕ) (seen : Seen) (rule : Rule) (rest : List Rule) (replies : List Reply) (story : Story)
      → is_check_state rule.action ≡ false → is_rule_met q rule ≡ true → state_of rule ≡ None → Runs q depth seen (Acts rule rest) replies story → Runs q depth seen (Tests rule rest) replies story
  -- `keep-state` and `limit` ask for a state of their own: without a reply the run is open there.
  IsWaiting : (depth : ℕ) (seen : Seen) (rule : Rule) (rest : List Rule) (state : StateOpt) (flow : Flow)
      → is_check_state rule.action ≡ false → is_rule_met q rule ≡ true → state_of rule ≡ Some state → any_flow_of q.packet ≡ Some flow
      → Runs q depth seen (Tests rule rest) [] (story_with_ask (install_by q rule state flow) (plain_story (OpensAt (install_by q rule state flow))))
  -- Once it is made the rule acts,
  IsMade : (depth : ℕ) (seen : Seen) (rule : Rule) (rest : List Rule) (state : StateOpt) (flow : Flow) (replies : List Reply) (story : Story)
      → is_check_state rule.action ≡ false → is_rule_met q rule ≡ true → state_of rule ≡ Some state → any_flow_of q.packet ≡ Some flow
      → Runs q depth seen (Acts rule rest) replies story → Runs q depth seen (Tests rule rest) (Created ∷ replies) (story_with_ask (install_by q rule state flow) story)
  -- and where it was there already.
  IsThere : (depth : ℕ) (seen : Seen) (rule : Rule) (rest : List Rule) (state : StateOpt) (flow : Flow) (replies : List Reply) (story : Story)
      → is_check_state rule.action ≡ false → is_rule_met q rule ≡ true → state_of rule ≡ Some state → any_flow_of q.packet ≡ Some flow
      → Runs q depth seen (Acts rule rest) replies story → Runs q depth seen (Tests rule rest) (Exists ∷ replies) (story_with_ask (install_by q rule state flow) story)
  -- Where the limit is reached the rule denies the packet, without a hit,
  IsLimited : (depth : ℕ) (seen : Seen) (rule : Rule) (rest : List Rule) (state : StateOpt) (flow : Flow) (count : ℕ) (replies : List Reply)
      → is_check_state rule.action ≡ false → is_rule_met q rule ≡ true → state_of rule ≡ Some state → any_flow_of q.packet ≡ Some flow
      → Runs q depth seen (Tests rule rest) (LimitReached count ∷ replies) (story_with_ask (install_by q rule state flow) (plain_story (Ends (judgement_under q verdict.Deny (rule_ref rule) (cause.Limit count)) replies)))
  -- and so it does where the states are full.
  IsFull : (depth : ℕ) (seen : Seen) (rule : Rule) (rest : List Rule) (state : StateOpt) (flow : Flow) (count : ℕ) (replies : List Reply)
      → is_check_state rule.action ≡ false → is_rule_met q rule ≡ true → state_of rule ≡ Some state → any_flow_of q.packet ≡ Some flow
      → Runs q depth seen (Tests rule rest) (TableFull count ∷ replies) (story_with_ask (install_by q rule state flow) (plain_story (Ends (judgement_under q verdict.Deny (rule_ref rule) (cause.Full count)) replies)))
  -- A reply that isn't one to the install.
  IsMisread : (depth : ℕ) (seen : Seen) (rule : Rule) (rest : List Rule) (state : StateOpt) (flow : Flow) (reply : Reply) (replies : List Reply)
      → is_check_state rule.action ≡ false → is_rule_met q rule ≡ true → state_of rule ≡ Some state → any_flow_of q.packet ≡ Some flow
      → is_reply_to q.edition.config.rules (install_by q rule state flow) reply ≡ false
      → Runs q depth seen (Tests rule rest) (reply ∷ replies) (story_with_ask (install_by q rule state flow) (plain_story Mistakes))
  -- A rule that acts is counted. `allow`, `deny`, `reset` and `unreach` end the search.
  IsDecided : (depth : ℕ) (seen : Seen) (rule : Rule) (rest : List Rule) (verdict : Verdict) (replies : List Reply)
      → verdict_of rule.action ≡ Some verdict → Runs q depth seen (Acts rule rest) replies (story_with_hit rule.counter (plain_story (Ends (judgement_under q verdict (rule_ref rule) cause.Rule) replies)))
  -- `count` goes on with the next rule,
  IsCounted : (depth : ℕ) (seen : Seen) (rule : Rule) (rest : List Rule) (replies : List Reply) (story : Story)
      → rule.action ≡ Count → Runs q depth seen (Meets rest) replies story → Runs q depth seen (Acts rule rest) replies (story_with_hit rule.counter story)
  -- and so does a `check-state`.
  IsChecked : (depth : ℕ) (seen : Seen) (rule : Rule) (rest : List Rule) (name : Option (List ℕ)) (replies : List Reply) (story : Story)
      → rule.action ≡ CheckState name → Runs q depth seen (Meets rest) replies story → Runs q depth seen (Acts rule rest) replies (story_with_hit rule.counter story)
  -- `skipto` leaves out the rules behind it that are numbered below.
  IsSkipped : (depth : ℕ) (seen : Seen) (rule : Rule) (rest : List Rule) (number : ℕ) (replies : List Reply) (story : Story)
      → rule.action ≡ SkipTo number → Runs q depth seen (Meets (rules_from number rest)) replies story → Runs q depth seen (Acts rule rest) replies (story_with_hit rule.counter story)
  -- Where sixteen calls are open, `call` goes on with the next rule.
  IsDeepest : (depth : ℕ) (seen : Seen) (rule : Rule) (rest : List Rule) (number : ℕ) (replies : List Reply) (story : Story)
      → rule.action ≡ Call number → 16 ≤ depth → Runs q depth seen (Meets rest) replies story → Runs q depth seen (Acts rule rest) replies (story_with_hit rule.counter story)
  -- Else it runs the rules from the first one numbered so or higher on, one call deeper: if that ends, this ends.
  IsEnded : (depth : ℕ) (seen : Seen) (rule : Rule) (rest : List Rule) (number : ℕ) (replies : List Reply) (inner : Story)
      → rule.action ≡ Call number → depth < 16 → Runs q (suc depth) seen (Meets (rules_from number q.edition.config.rules)) replies inner → HasEnded inner.ending
      → Runs q depth seen (Acts rule rest) replies (story_with_hit rule.counter inner)
  -- If it returned, this goes on behind all rules of its own number, with the names of the return.
  IsReturned : (depth : ℕ) (seen : Seen) (rule : Rule) (rest : List Rule) (number : ℕ) (replies : List Reply) (inner : Story) (later : Seen) (left : List Reply) (story : Story)
      → rule.action ≡ Call number → depth < 16 → Runs q (suc depth) seen (Meets (rules_from number q.edition.config.rules)) replies inner → inner.ending ≡ Returns later left
      → Runs q depth later (Meets (rules_from (rule.number + 1) q.edition.config.rules)) left story → Runs q depth seen (Acts rule rest) replies (story_with_hit rule.counter (stories_in_turn inner story))
  -- `return` outside of calls goes on with the next rule,
  IsOutside : (seen : Seen) (rule : Rule) (rest : List Rule) (replies : List Reply) (story : Story)
      → rule.action ≡ Return → Runs q 0 seen (Meets rest) replies story → Runs q 0 seen (Acts rule rest) replies (story_with_hit rule.counter story)
  -- and within one it returns.
  IsWithin : (depth : ℕ) (seen : Seen) (rule : Rule) (rest : List Rule) (replies : List Reply)
      → rule.action ≡ Return → Runs q (suc depth) seen (Acts rule rest) replies (story_with_hit rule.counter (plain_story (Returns seen replies)))

-- What the run from the first rule on comes to, outside of calls and with no name looked up.
pub record IsRunResult (q : Question) (replies : List Reply) (evaluated : Evaluated) : Type 0 where
  pub story : Story
  pub runs : Runs q 0 no_names (Meets q.edition.config.rules) replies story
  pub told : evaluated ≡ told_by story

-- Under the rules of a configuration, sentence by sentence there is one evaluation, and it is this one.
abbrev pub EvaluationsAreRuns : Type 0
EvaluationsAreRuns = (q : Question) (replies : List Reply) (evaluated : Evaluated) → IsConfiguration q.edition.config → IsRunResult q replies evaluated ↔ (evaluated ≡ evaluate q replies)
