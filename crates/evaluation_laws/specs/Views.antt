-- What the plain evaluator's values stand for.
use Rattle.std.specs.Prelude.{Bool, false, if◌then◌else◌, slice_index_or}
use Rattle.state_asks.specs.declared.op.FlowName.{FlowName}
use Rattle.state_asks.specs.declared.op.FlowName.TheVariants.{Any, Named}
use Rattle.eval_engine.specs.Evaluated as evaluated
use Rattle.eval_engine.specs.Question as spec
use Rattle.eval_engine.specs.Trace.{Seen, Done, Names}
use Rattle.evaluation_laws.specs.Story as told
use Rattle.evaluation_laws.specs.declared.evaluation.Outcome.{Outcome}
use Rattle.evaluation_laws.specs.declared.evaluation.Outcome.TheVariants as outcome
use Rattle.evaluation_laws.specs.declared.searched.Searched.{Searched}
use Rattle.evaluation_laws.specs.declared.question.Question.{Question}
use Rattle.evaluation_laws.specs.declared.story.Ending.{Ending}
use Rattle.evaluation_laws.specs.declared.story.Ending.TheVariants as ending
use Rattle.evaluation_laws.specs.declared.story.Story.{Story}

-- what is evaluated, as the definition names it
abbrev pub viewed_question : Question → spec.Question
viewed_question q = spec.question_under q.edition.now q.packet.now q.port.now q.second

-- the flow names that were looked up, by their numbers
abbrev pub is_searched : Searched → FlowName → Bool
is_searched searched Any = searched.any
is_searched searched (Named number) = slice_index_or searched.names number false

-- the flow names that were looked up
abbrev pub seen_by : Searched → Seen
seen_by searched = if searched.found then Done else Names (is_searched searched)

-- how a run ends, as the relation has it
abbrev pub ending_of : Ending → told.Ending
ending_of (ending.Ends judgement left) = told.Ends judgement left.now
ending_of (ending.OpensAt op) = told.OpensAt op
ending_of ending.Mistakes = told.Mistakes
ending_of (ending.Returns searched left) = told.Returns (seen_by searched) left.now

-- what a run comes to, as the relation has it
abbrev pub story_of : Story → told.Story
story_of story = record { asks = story.asks; hits = story.hits; ending = ending_of story.ending }

-- how an evaluation ends, as the definition has it
abbrev pub viewed_outcome : Outcome → evaluated.Outcome
viewed_outcome (outcome.Whole judgement) = evaluated.Whole judgement
viewed_outcome (outcome.OpenAt op) = evaluated.OpenAt op
viewed_outcome outcome.Neither = evaluated.Neither
