-- A line that ran: what becomes of the world, its lanes and the answers.
use Rattle.std.proofs.Common.{◌≡◌, ℕ, ◌+◌, Some, None, Ok, Err, List, [], ◌∷◌, ◌++◌, length, sym, ap, subst, ◌∙◌, inl, inr}
use Rattle.std.specs.Prelude.{◌⊎◌, Result, OnOk}
use Rattle.std.specs.List.{AllByRecursion}
use Rattle.fw_command.specs.declared.script.Line.{Line}
use Rattle.report_texts.specs.declared.ends.Answer.{Answer}
use Rattle.report_texts.specs.declared.ends.LineAnswer.{LineAnswer}
use Rattle.report_texts.specs.declared.ends.Answer.TheVariants.{Refused}
use Rattle.fw_rule.specs.declared.command.Command.{Command}
use Rattle.fw_world.specs.Closing.{AreLanesFrom, EachStandsFor}
use Rattle.fw_world.specs.CommitFaults.{RefusesCommand}
use Rattle.fw_world.specs.Inputs.{Input}
use Rattle.fw_world.specs.Lane.{LaneValue}
use Rattle.fw_world.specs.Editions.{IsNextEdition}
use Rattle.fw_world.specs.World.{WorldValue, IsLaneOf, LaneStandsFor}
use Rattle.generation_store.specs.Published.{Published}
use Rattle.state_journal.specs.Journal.{Journal}
use Rattle.rule_chain.specs.Configuration.{Configuration}
use Rattle.capture_tracks.specs.Commands.{Standing, Listing, listing_of, line_answer}
use Rattle.capture_tracks.specs.Operator.{IsListed, OperatorStandsFor, AddsEdition, AddsRefusal}
use Rattle.capture_tracks.proofs.Operator.{stands-listed, stands-refused, stands-accepted}
use Rattle.serial_replay.specs.Events.{RunState, RunsLine}
use Rattle.serial_replay.specs.ReplayWorld.{run_state, operator_of, IsClean, IsSound, ReplayStandsFor, AnswersLine, Accepts, RefusesLine, RunsALine}
use Rattle.serial_replay.specs.declared.replay_world.ReplayWorld.{ReplayWorld}

-- the world and its lanes
state : WorldValue → List LaneValue → RunState
state world lanes = record { world = world; lanes = lanes }

state-same : (old new : ReplayWorld) (answer : LineAnswer) → AnswersLine old new answer → run_state new ≡ run_state old
unfolding state
state-same old new answer h = ap (λ world. state world new.lanes.items) h.world ∙ ap (state old.world) h.lanes

sound-answers : (old new : ReplayWorld) (answer : LineAnswer) → AnswersLine old new answer → IsSound old → IsSound new
sound-answers old new answer h sound = record {
  desk = h.answered.editions ∙ sound.desk ∙ sym (ap (λ (w : WorldValue). w.editions) h.world);
  lanes = subst (λ lanes. AreLanesFrom new.world 1 lanes) (sym h.lanes) (subst (λ world. AreLanesFrom world 1 old.lanes.items) (sym h.world) sound.lanes);
  all = ap length h.lanes ∙ sound.all ∙ sym (ap (λ (w : WorldValue). w.journal.lanes) h.world);
  clean = subst (λ lanes. AllByRecursion IsClean lanes) (sym h.lanes) sound.clean;
}

-- an answer more: world and lanes stay
replay-answers : (first : Configuration) (inputs : List (List Input)) (standing after : Standing) (old new : ReplayWorld) (answer : LineAnswer) → AnswersLine old new answer → OperatorStandsFor first after (operator_of new)
    → ReplayStandsFor first inputs standing old → ReplayStandsFor first inputs after new
replay-answers first inputs standing after old new answer h operator replay = record {
  sound = sound-answers old new answer h replay.sound;
  operator = operator;
  stands = subst (λ lanes. EachStandsFor new.world lanes inputs) (sym h.lanes) (subst (λ world. EachStandsFor world old.lanes.items inputs) (sym h.world) replay.stands);
}

-- a listing was answered
pub runs-listed : (old new : ReplayWorld) (line : Line) (listing : Listing) (answer : Answer) → listing_of line.command ≡ Some listing → IsListed old.desk listing answer → AnswersLine old new (line_answer line.line answer) → RunsALine old new line
runs-listed old new line listing answer is listed h = record {
  runs = subst (λ l. RunsLine (run_state old) (run_state new) line.command l) (sym is) (state-same old new (line_answer line.line answer) h);
  sound = sound-answers old new (line_answer line.line answer) h;
  lanes = h.lanes;
  stands = λ first inputs standing replay. replay-answers first inputs standing _ old new (line_answer line.line answer) h
      (stands-listed (operator_of old) (operator_of new) line listing answer is listed h.answered first standing replay.operator) replay;
}

-- a command was refused
pub runs-refused : (old new : ReplayWorld) (line : Line) → listing_of line.command ≡ None → RefusesLine old new line → RunsALine old new line
runs-refused old new line is h = record {
  runs = subst (λ l. RunsLine (run_state old) (run_state new) line.command l) (sym is) (inr ((h.fault, h.refusal), state-same old new (line_answer line.line (Refused h.fault)) h.answers));
  sound = sound-answers old new (line_answer line.line (Refused h.fault)) h.answers;
  lanes = h.answers.lanes;
  stands = λ first inputs standing replay.
      let adds : AddsRefusal (operator_of old) (operator_of new) line = record {
        fault = h.fault;
        refusal = subst (λ editions. RefusesCommand editions line.command h.fault) (sym replay.sound.desk) h.refusal;
        answered = h.answers.answered;
      } in
      replay-answers first inputs standing _ old new (line_answer line.line (Refused h.fault)) h.answers (stands-refused (operator_of old) (operator_of new) line is adds first standing replay.operator) replay;
}

lanes-kept : (old new : WorldValue) (place : ℕ) (lanes : List LaneValue) → ((lane : LaneValue) → IsLaneOf old lane → IsLaneOf new lane) → AreLanesFrom old place lanes → AreLanesFrom new place lanes
lanes-kept old new place [] kept are = tt
lanes-kept old new place (lane ∷ lanes) kept are = (are.0, kept lane are.1, lanes-kept old new (place + 1) lanes kept are.2)

stand-kept : (old new : WorldValue) (place : ℕ) (lanes : List LaneValue) (inputs : List (List Input)) → ((lane : LaneValue) (own : List Input) → LaneStandsFor old lane own → LaneStandsFor new lane own)
    → EachStandsFor old lanes inputs → EachStandsFor new lanes inputs
stand-kept old new place [] [] kept stands = tt
stand-kept old new place [] (own ∷ inputs) kept stands = absurd stands
stand-kept old new place (lane ∷ lanes) [] kept stands = absurd stands
stand-kept old new place (lane ∷ lanes) (own ∷ inputs) kept stands = (kept lane own stands.0, stand-kept old new (place + 1) lanes inputs kept stands.1)

sound-accepted : (old new : ReplayWorld) (command : Command) → Accepts old new command → IsSound old → IsSound new
sound-accepted old new command h sound = record {
  desk = h.desk;
  lanes = subst (λ lanes. AreLanesFrom new.world 1 lanes) (sym h.lanes) (lanes-kept old.world new.world 1 old.lanes.items h.kept sound.lanes);
  all = ap length h.lanes ∙ sound.all ∙ sym (ap (λ (j : Journal). j.lanes) h.publishes.journal);
  clean = subst (λ lanes. AllByRecursion IsClean lanes) (sym h.lanes) sound.clean;
}

-- the desk shows one edition more
adds-edition : (old new : ReplayWorld) (command : Command) → Accepts old new command → old.desk ≡ old.world.editions → AddsEdition (operator_of old) (operator_of new) command
adds-edition old new command h desk = record {
  edition = h.publishes.edition;
  next = subst (λ editions. IsNextEdition editions command h.publishes.edition) (sym desk) h.publishes.next;
  editions = h.desk ∙ h.publishes.editions ∙ ap (λ (editions : List Published). editions ++ h.publishes.edition ∷ []) (sym desk);
  answers = h.answers;
  accepts = h.accepts;
}

-- an edition was published
pub runs-accepted : (old new : ReplayWorld) (line : Line) → listing_of line.command ≡ None → Accepts old new line.command → RunsALine old new line
runs-accepted old new line is h = record {
  runs = subst (λ l. RunsLine (run_state old) (run_state new) line.command l) (sym is) (inl (h.lanes, h.publishes));
  sound = sound-accepted old new line.command h;
  lanes = h.lanes;
  stands = λ first inputs standing replay. record {
    sound = sound-accepted old new line.command h replay.sound;
    operator = stands-accepted (operator_of old) (operator_of new) line is (adds-edition old new line.command h replay.sound.desk) first standing replay.operator;
    stands = subst (λ lanes. EachStandsFor new.world lanes inputs) (sym h.lanes) (stand-kept old.world new.world 1 old.lanes.items inputs h.stands replay.stands);
  };
}

-- a command was published or refused
pub runs-command : (old new : ReplayWorld) (line : Line) → listing_of line.command ≡ None → Accepts old new line.command ⊎ RefusesLine old new line → RunsALine old new line
runs-command old new line is (inl h) = runs-accepted old new line is h
runs-command old new line is (inr h) = runs-refused old new line is h

-- what follows from what holds where a call succeeds
pub ok-then : {T E : Type 0} (r : Result T E) (P Q : Type 0) → (P → Q) → OnOk r P → OnOk r Q
ok-then (Ok x) P Q follows h = follows h
ok-then (Err e) P Q follows h = tt

-- what follows from two facts that hold where a call succeeds
pub ok-two : {T E : Type 0} (r : Result T E) (P Q R : Type 0) → (P → Q → R) → OnOk r P → OnOk r Q → OnOk r R
ok-two (Ok x) P Q R follows p q = follows p q
ok-two (Err e) P Q R follows p q = tt
