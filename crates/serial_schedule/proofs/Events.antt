-- The events of a replay, one after the other.
use Rattle.std.proofs.Common.{refl, sym, subst, true, false, nat_le, if◌then◌else◌, ◌≡◌, ℕ, ◌+◌, ◌<◌, Some, None, List, [], ◌∷◌, ◌++◌, map, length, ap, ◌∙◌}
use Rattle.fw_command.specs.declared.script.Line.{Line}
use Rattle.fw_command.specs.declared.script.Step.{Step}
use Rattle.fw_command.specs.declared.script.Step.TheVariants.{Run, After}
use Rattle.pcap_read.specs.Reading.{Captured}
use Rattle.serial_schedule.specs.Agenda.{due_lines, waiting_steps, GivesDue, NoneIsDue, GivesRest}
use Rattle.fw_command.specs.Steps.{all_lines}
use Rattle.serial_schedule.specs.Order.{Turn, next_moment, first_capture, in_order}
use Rattle.serial_schedule.specs.Schedule.{Ran, Taken, events_from}
use Rattle.serial_schedule.proofs.Turns.{with_next, in_order-turn, in_order-none}

-- a line that is due runs first, whatever is still to come
pub events-due : (taken : ℕ) (old : List Step) (line : Line) (new : List Step) (turns : List Turn) → GivesDue taken old line new → events_from taken old turns ≡ Ran line ∷ events_from taken new turns
unfolding events_from
events-due taken old line new [] h = ap (map Ran) h.all
events-due taken old line new (turn ∷ turns) h =
    ap (λ lines. map Ran lines ++ Taken turn ∷ events_from (taken + 1) (waiting_steps taken old) turns) h.due
    ∙ ap (λ steps. Ran line ∷ (map Ran (due_lines taken new) ++ Taken turn ∷ events_from (taken + 1) steps turns)) h.waiting

-- where none is due the next record has its turn
pub events-turn : (taken : ℕ) (old new : List Step) (turn : Turn) (turns : List Turn) → NoneIsDue taken old new → events_from taken old (turn ∷ turns) ≡ Taken turn ∷ events_from (taken + 1) new turns
unfolding events_from
events-turn taken old new turn turns h =
    ap (λ lines. map Ran lines ++ Taken turn ∷ events_from (taken + 1) (waiting_steps taken old) turns) h.due
    ∙ ap (λ steps. Taken turn ∷ events_from (taken + 1) steps turns) h.waiting

-- where no record is left the next line runs, whatever it waits for
pub events-rest : (taken : ℕ) (old : List Step) (line : Line) (new : List Step) → GivesRest old line new → events_from taken old [] ≡ Ran line ∷ events_from taken new []
unfolding events_from
events-rest taken old line new h = ap (map Ran) h.all

-- and where no line is left either there is no event any more
pub events-none : (taken : ℕ) (old : List Step) → all_lines old ≡ [] → events_from taken old [] ≡ []
unfolding events_from
events-none taken old h = ap (map Ran) h

-- The next event where none is due: the turn of the capture that comes first; what is left then are the others' records and its own behind that one.
pub events-next : (taken : ℕ) (old new : List Step) (capture : ℕ) (r : Captured) (rests : List (List Captured)) → NoneIsDue taken old new → capture < length rests → first_capture (map next_moment (with_next capture r rests)) ≡ Some capture
    → events_from taken old (in_order (with_next capture r rests)) ≡ Taken (record { capture = capture; taken = r }) ∷ events_from (taken + 1) new (in_order rests)
events-next taken old new capture r rests none within first =
    ap (events_from taken old) (in_order-turn capture r rests within first) ∙ events-turn taken old new (record { capture = capture; taken = r }) (in_order rests) none

-- where no capture has a record left only lines are
pub events-ended : (taken : ℕ) (steps : List Step) (rests : List (List Captured)) → first_capture (map next_moment rests) ≡ None → events_from taken steps (in_order rests) ≡ events_from taken steps []
events-ended taken steps rests none = ap (events_from taken steps) (in_order-none rests none)

-- the steps that wait go on waiting
waiting-waits : (taken : ℕ) (steps : List Step) → (due_lines taken (waiting_steps taken steps) ≡ []) × (waiting_steps taken (waiting_steps taken steps) ≡ waiting_steps taken steps)
waiting-waits taken [] = (refl, refl)
waiting-waits taken (Run line ∷ steps) = waiting-waits taken steps
waiting-waits taken (After count ∷ steps) =
    let rest = waiting-waits taken steps in
    elim (nat_le count taken) as (λ b. nat_le count taken ≡ b → (due_lines taken (if b then waiting_steps taken steps else After count ∷ steps) ≡ []) × (waiting_steps taken (if b then waiting_steps taken steps else After count ∷ steps) ≡ (if b then waiting_steps taken steps else After count ∷ steps))) [
      | true ↦ λ is. rest
      | false ↦ λ is. (ap (λ b. if b then due_lines taken steps else []) is, ap (λ b. if b then waiting_steps taken steps else After count ∷ steps) is)
    ] refl

-- where none is due, none is due of the steps that wait
pub none-settled : (taken : ℕ) (old new : List Step) → NoneIsDue taken old new → NoneIsDue taken new new
none-settled taken old new h =
    let waits = waiting-waits taken old in
    record {
      due = subst (λ steps. due_lines taken steps ≡ []) h.waiting waits.0;
      waiting = subst (λ steps. waiting_steps taken steps ≡ steps) h.waiting waits.1;
      all = refl;
      last = ([], refl);
    }

-- and the events are those of the steps that wait
pub events-settled : (taken : ℕ) (old new : List Step) (turns : List Turn) → NoneIsDue taken old new → events_from taken old turns ≡ events_from taken new turns
unfolding events_from
events-settled taken old new [] h = ap (map Ran) h.all
events-settled taken old new (turn ∷ turns) h = events-turn taken old new turn turns h ∙ sym (events-turn taken new new turn turns (none-settled taken old new h))
