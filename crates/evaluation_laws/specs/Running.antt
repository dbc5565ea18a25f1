-- What the plain evaluator's functions promise.
use Rattle.std.specs.Prelude.{◌≡◌, ℕ, ◌+◌, ◌≤◌, true, List, ◌∷◌, length, drop}
use Rattle.state_asks.specs.declared.reply.Reply.{Reply}
use Rattle.fw_rule.specs.declared.rule.Rule.{Rule}
use Rattle.generation_store.specs.Published.{has_identity}
use Rattle.eval_engine.specs.Place.{IsRuleAt}
use Rattle.eval_engine.specs.Question.{Question}
use Rattle.eval_engine.specs.Trace.{Seen}
use Rattle.eval_engine.specs.Walk.{suffix_of}
use Rattle.evaluation_laws.specs.Runs.{Moment, Runs}
use Rattle.evaluation_laws.specs.Story.{Ending, Ends, OpensAt, Mistakes, Returns, Story}

-- how many replies a `return` leaves
abbrev pub left_of : Ending → ℕ
left_of (Ends judgement left) = 0
left_of (OpensAt op) = 0
left_of Mistakes = 0
left_of (Returns seen left) = length left

-- the run from this moment on has this story, and a `return` leaves no more replies than there were
pub record IsRun (q : Question) (depth : ℕ) (seen : Seen) (moment : Moment) (replies : List Reply) (story : Story) : Type 0 where
  pub runs : Runs q depth seen moment replies story
  pub fewer : left_of story.ending ≤ length replies

-- the rule of this identity, in its place
pub record IsMaker (q : Question) (id place : ℕ) (rule : Rule) : Type 0 where
  pub known : has_identity q.edition.config.rules id ≡ true
  pub there : IsRuleAt q place rule
  pub suffix : suffix_of id q.edition.config.rules ≡ rule ∷ drop (place + 1) q.edition.config.rules
