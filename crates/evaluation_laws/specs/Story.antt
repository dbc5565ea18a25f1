-- What a run over rules comes to.
use Rattle.std.specs.Prelude.{ℕ, List, [], ◌∷◌, ◌++◌}
use Rattle.state_asks.specs.declared.op.Op.{Op}
use Rattle.state_asks.specs.declared.reply.Reply.{Reply}
use Rattle.eval_engine.specs.Evaluated.{Evaluated, Outcome, Whole, OpenAt, Neither}
use Rattle.eval_engine.specs.Trace.{Seen}
use Rattle.eval_engine.specs.declared.judgement.Judgement.{Judgement}

-- How a run ends: by a judgement, with these replies left over; open at an ask, with no reply left; at a reply that
-- isn't one to its ask; or by a `return`, with these names looked up and these replies left.
pub data Ending : Type 0 where
  Ends : Judgement → List Reply → Ending
  OpensAt : Op → Ending
  Mistakes : Ending
  Returns : Seen → List Reply → Ending

-- its asks in order, the counter numbers of its hits in order, and how it ends
pub record Story : Type 0 where
  pub asks : List Op
  pub hits : List ℕ
  pub ending : Ending

-- with nothing asked and no hit
abbrev pub plain_story : Ending → Story
plain_story ending = record { asks = []; hits = []; ending = ending }

-- behind this ask
abbrev pub story_with_ask : Op → Story → Story
story_with_ask op story = record { asks = op ∷ story.asks; hits = story.hits; ending = story.ending }

-- behind this hit
abbrev pub story_with_hit : ℕ → Story → Story
story_with_hit counter story = record { asks = story.asks; hits = counter ∷ story.hits; ending = story.ending }

-- one run behind the other
abbrev pub stories_in_turn : Story → Story → Story
stories_in_turn first story = record { asks = first.asks ++ story.asks; hits = first.hits ++ story.hits; ending = story.ending }

-- whole where the run ended and used every reply; a run outside of calls never returns
abbrev pub outcome_by : Ending → Outcome
outcome_by (Ends judgement []) = Whole judgement
outcome_by (Ends judgement (reply ∷ left)) = Neither
outcome_by (OpensAt op) = OpenAt op
outcome_by Mistakes = Neither
outcome_by (Returns seen left) = Neither

-- the evaluation that the run is
abbrev pub told_by : Story → Evaluated
told_by story = record { asks = story.asks; hits = story.hits; outcome = outcome_by story.ending }
