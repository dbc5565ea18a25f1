-- The asks of one record, one after the other, of whoever asks the states for a lane.
use Rattle.std.specs.Prelude.{◌≡◌, ℕ, ◌<◌, ◌==◌, ◌⊎◌, if◌then◌else◌, List, [], ◌∷◌, ◌++◌, length}
use Rattle.counter_book.specs.Counts.{counted_under, count_after_packet}
use Rattle.counter_book.specs.declared.tally.Count.{Count}
use Rattle.state_asks.specs.declared.op.Op.{Op}
use Rattle.state_asks.specs.declared.reply.Reply.{Reply}
use Rattle.eval_engine.specs.Evaluated.{Whole}
use Rattle.eval_engine.specs.Evaluation.{evaluate}
use Rattle.eval_engine.specs.Question.{Question}
use Rattle.eval_engine.specs.declared.judgement.Judgement.{Judgement}
use Rattle.ip6_headers.specs.Either.{total_of}

-- each of these asks was entered with its reply, in order, and nothing happened between them
abbrev pub EntersEach : {B : Type 0} → (B → Op → Reply → B → Type 0) → B → List Op → List Reply → B → Type 0
EntersEach enters old [] [] new = new ≡ old
EntersEach enters old [] (reply ∷ replies) new = ⊥
EntersEach enters old (op ∷ ops) [] new = ⊥
EntersEach {B} enters old (op ∷ ops) (reply ∷ replies) new = (next : B) × enters old op reply next × EntersEach enters next ops replies new

-- a count after one packet of so many bytes for each of these counter numbers that is this one
abbrev pub raised_by : ℕ → List ℕ → ℕ → Count → Count
raised_by bytes [] id count = count
raised_by bytes (counter ∷ hits) id count = raised_by bytes hits id (if counter == id then count_after_packet count bytes else count)

-- the counts have risen by exactly these hits
abbrev pub RisesBy : ℕ → List ℕ → List Count → List Count → Type 0
RisesBy bytes hits counts countsAfter = (id : ℕ) → counted_under countsAfter id ≡ raised_by bytes hits id (counted_under counts id)

-- With the replies to the asks that were entered the evaluation is whole and came to this judgement, and the
-- counts have risen by its hits.
pub record Evaluates {B : Type 0} (enters : B → Op → Reply → B → Type 0) (old new : B) (question : Question) (counts countsAfter : List Count) (judgement : Judgement) : Type 0 where
  pub replies : List Reply
  pub outcome : (evaluate question replies).outcome ≡ Whole judgement
  pub entered : EntersEach enters old (evaluate question replies).asks replies new
  pub counted : RisesBy (total_of question.packet) (evaluate question replies).hits counts countsAfter

-- these are a beginning of those
abbrev pub IsFrontOf : List Op → List Op → Type 0
IsFrontOf front all = (rest : List Op) × (all ≡ front ++ rest)

-- Asks of one evaluation were entered, a beginning of those that it makes with their replies: all that it
-- came to, or those before an ask that it makes too, which wanted memory.
pub record AsksFront {B : Type 0} (enters : B → Op → Reply → B → Type 0) (misses : B → B → Type 0) (old new : B) (question : Question) : Type 0 where
  pub ops : List Op
  pub replies : List Reply
  pub between : B
  pub entered : EntersEach enters old ops replies between
  pub begins : IsFrontOf ops (evaluate question replies).asks
  pub missed : (new ≡ between) ⊎ ((length ops < length (evaluate question replies).asks) × misses between new)
