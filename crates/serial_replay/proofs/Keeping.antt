-- What each step of a replay keeps.
use Rattle.std.proofs.Common.{◌≡◌, ℕ, Option, None, List, [], ◌∷◌, ◌++◌, map, length, sym, ap, subst, ◌∙◌, arith}
use Rattle.std.specs.Option.{option_map}
use Rattle.serial_replay.specs.declared.replay_world.ReplayWorld.{ReplayWorld}
use Rattle.std.specs.List.{AllByRecursion}
use Rattle.fw_command.specs.WellFormed.{IsStepInRange, IsLine}
use Rattle.fw_command.specs.declared.script.Line.{Line}
use Rattle.fw_command.specs.declared.script.Step.{Step}
use Rattle.fw_command.specs.declared.script.Step.TheVariants.{Run}
use Rattle.fw_world.specs.RecordedHits.{EachHasRoom}
use Rattle.pcap_read.specs.Reading.{Captured}
use Rattle.capture_tracks.specs.Commands.{after_line, after_lines}
use Rattle.serial_replay.specs.Events.{ReplaysAll}
use Rattle.serial_replay.specs.ReplayWorld.{run_state, AreLanesAt, IsSound, ReplayStandsFor, RunsALine}
use Rattle.serial_replay.specs.Running.{IsReady, Keeps, HaveTracks, ports_of, inputs_of, first_capture_of}
use Rattle.capture_tracks.specs.Tracks.{held_record_of}
use Rattle.serial_replay.specs.Tracks.{AreTracks, rooms_of}
use Rattle.serial_replay.specs.declared.running.Running.{Running}
use Rattle.serial_schedule.specs.Agenda.{AreLast, GivesDue, NoneIsDue, GivesRest, NoneIsLeft}
use Rattle.fw_command.specs.Steps.{all_lines}
use Rattle.serial_schedule.specs.Order.{in_order, next_record_of, next_moment, first_capture, moment_of}
use Rattle.serial_schedule.specs.Schedule.{Ran, events_from}
use Rattle.serial_schedule.specs.Steps.{steps_of}
use Rattle.serial_schedule.proofs.Events.{events-due, events-settled, events-ended, events-none, events-rest}
use Rattle.serial_schedule.proofs.Turns.{moments-heads}

all-behind : {X : Type 0} (P : X → Type 0) (xs ys : List X) → AllByRecursion P (xs ++ ys) → AllByRecursion P ys
all-behind P [] ys all = all
all-behind P (x ∷ xs) ys all = all-behind P xs ys all.1

pub formed-last : (old new : List Step) → AreLast new old → AllByRecursion IsStepInRange old → AllByRecursion IsStepInRange new
formed-last old new (passed, is) all = all-behind IsStepInRange passed new (subst (λ steps. AllByRecursion IsStepInRange steps) is all)

module _ {S : Type 0} (left : S → Option (List ℕ)) (faults : S → ℕ) where
  pub keeps-none : (run : Running S) → IsReady left faults run → Keeps left faults run run
  keeps-none run ready = record { ready = ready; goes = λ config steps cache limit captures origins first goes. goes }

  -- what each of two calls keeps, both of them keep, one after the other
  pub keeps-both : (a b c : Running S) → Keeps left faults a b → Keeps left faults b c → Keeps left faults a c
  keeps-both a b c h k = record { ready = k.ready; goes = λ config steps cache limit captures origins first goes. k.goes config steps cache limit captures origins first (h.goes config steps cache limit captures origins first goes) }

  -- the same tracks are those of the same captures
  abbrev have-same : (old new : Running S) → new.tracks ≡ old.tracks → HaveTracks left faults old.tracks → HaveTracks left faults new.tracks
  have-same old new tracks have = record {
    limit = have.limit;
    captures = have.captures;
    dones = have.dones;
    origins = have.origins;
    are = subst (λ ts. AreTracks left faults have.limit have.captures ts have.dones have.origins) (sym tracks) have.are;
  }

  -- a line ran
  keeps-line : (old new : Running S) (line : Line) → IsReady left faults old → RunsALine old.replay new.replay line → all_lines (steps_of old.agenda) ≡ line ∷ all_lines (steps_of new.agenda) → AreLast (Run line ∷ steps_of new.agenda) (steps_of old.agenda)
      → ((rests : List (List Captured)) → map next_record_of rests ≡ map held_record_of old.tracks → events_from old.taken (steps_of old.agenda) (in_order rests) ≡ Ran line ∷ events_from new.taken (steps_of new.agenda) (in_order rests))
      → new.tracks ≡ old.tracks → new.taken ≡ old.taken → Keeps left faults old new
  unfolding after_lines
  keeps-line old new line ready runs lines last events tracks taken = record {
    ready = record {
      sound = runs.sound ready.sound;
      formed = (formed-last (steps_of old.agenda) (Run line ∷ steps_of new.agenda) last ready.formed).1;
      matched = ap length runs.lanes ∙ ready.matched ∙ sym (ap length tracks);
      tracked = have-same old new tracks ready.tracked;
      ports = subst (λ lanes. AreLanesAt (ports_of ready.tracked.origins) lanes) (sym runs.lanes) ready.ports;
      few = let rooms : rooms_of new.tracks ≡ rooms_of old.tracks = ap rooms_of tracks in omega (arith, ready.few, rooms, taken);
    };
    goes = λ config steps cache limit captures origins first h. record {
      dones = h.dones;
      standing = after_line h.standing line;
      tracks = subst (λ ts. AreTracks left faults limit captures ts h.dones origins) (sym tracks) h.tracks;
      stands = runs.stands config (inputs_of origins h.dones) h.standing h.stands;
      rooms = subst (λ lanes. EachHasRoom cache lanes) (sym runs.lanes) h.rooms;
      lines = sym (ap (after_lines h.standing) lines) ∙ h.lines;
      comes = λ rests end fits all.
          let fitting : map next_record_of rests ≡ map held_record_of old.tracks = fits ∙ ap (map held_record_of) tracks in
          h.comes rests end fitting (subst (λ events. ReplaysAll origins (run_state old.replay) end events) (sym (events rests fitting)) (run_state new.replay, runs.runs, all));
    };
  }

  -- a line that was due ran
  pub keeps-due : (old new : Running S) (line : Line) → IsReady left faults old → RunsALine old.replay new.replay line → GivesDue old.taken (steps_of old.agenda) line (steps_of new.agenda) → new.tracks ≡ old.tracks → new.taken ≡ old.taken → Keeps left faults old new
  keeps-due old new line ready runs gives tracks taken =
      keeps-line old new line ready runs gives.all gives.last (λ rests fits. events-due old.taken (steps_of old.agenda) line (steps_of new.agenda) (in_order rests) gives ∙ ap (λ n. Ran line ∷ events_from n (steps_of new.agenda) (in_order rests)) (sym taken)) tracks taken

  -- only steps were passed over
  keeps-same : (old new : Running S) → IsReady left faults old → all_lines (steps_of old.agenda) ≡ all_lines (steps_of new.agenda) → AllByRecursion IsStepInRange (steps_of new.agenda)
      → ((rests : List (List Captured)) → map next_record_of rests ≡ map held_record_of old.tracks → events_from old.taken (steps_of old.agenda) (in_order rests) ≡ events_from old.taken (steps_of new.agenda) (in_order rests))
      → new.replay ≡ old.replay → new.tracks ≡ old.tracks → new.taken ≡ old.taken → Keeps left faults old new
  keeps-same old new ready lines formed events replay tracks taken = record {
    ready = record {
      sound = subst IsSound (sym replay) ready.sound;
      formed = formed;
      matched = ap (λ (l : ReplayWorld). length l.lanes.items) replay ∙ ready.matched ∙ sym (ap length tracks);
      tracked = have-same old new tracks ready.tracked;
      ports = subst (λ (l : ReplayWorld). AreLanesAt (ports_of ready.tracked.origins) l.lanes.items) (sym replay) ready.ports;
      few = let rooms : rooms_of new.tracks ≡ rooms_of old.tracks = ap rooms_of tracks in omega (arith, ready.few, rooms, taken);
    };
    goes = λ config steps cache limit captures origins first h. record {
      dones = h.dones;
      standing = h.standing;
      tracks = subst (λ ts. AreTracks left faults limit captures ts h.dones origins) (sym tracks) h.tracks;
      stands = subst (ReplayStandsFor config (inputs_of origins h.dones) h.standing) (sym replay) h.stands;
      rooms = subst (λ (l : ReplayWorld). EachHasRoom cache l.lanes.items) (sym replay) h.rooms;
      lines = sym (ap (after_lines h.standing) lines) ∙ h.lines;
      comes = λ rests end fits all.
          let fitting : map next_record_of rests ≡ map held_record_of old.tracks = fits ∙ ap (map held_record_of) tracks in
          let here = subst (λ l. ReplaysAll origins (run_state l) end (events_from new.taken (steps_of new.agenda) (in_order rests))) replay all in
          let then_taken = subst (λ n. ReplaysAll origins (run_state old.replay) end (events_from n (steps_of new.agenda) (in_order rests))) taken here in
          h.comes rests end fitting (subst (λ events. ReplaysAll origins (run_state old.replay) end events) (sym (events rests fitting)) then_taken);
    };
  }

  -- none is due: the steps that wait are left
  pub keeps-settled : (old new : Running S) → IsReady left faults old → NoneIsDue old.taken (steps_of old.agenda) (steps_of new.agenda) → new.replay ≡ old.replay → new.tracks ≡ old.tracks → new.taken ≡ old.taken → Keeps left faults old new
  keeps-settled old new ready none replay tracks taken =
      keeps-same old new ready none.all (formed-last (steps_of old.agenda) (steps_of new.agenda) none.last ready.formed) (λ rests fits. events-settled old.taken (steps_of old.agenda) (steps_of new.agenda) (in_order rests) none) replay tracks taken

  -- the moments of rests that fit are those of what is held
  pub none_of_rests : (rests : List (List Captured)) (held : List (Option Captured)) → map next_record_of rests ≡ held → first_capture (map (option_map moment_of) held) ≡ None → first_capture (map next_moment rests) ≡ None
  none_of_rests rests held fits none = ap first_capture (moments-heads rests) ∙ ap (λ h. first_capture (map (option_map moment_of) h)) fits ∙ none

  -- no step is left
  pub keeps-ended : (old new : Running S) → IsReady left faults old → first_capture_of old.tracks ≡ None → NoneIsLeft (steps_of old.agenda) (steps_of new.agenda) → new.replay ≡ old.replay → new.tracks ≡ old.tracks → new.taken ≡ old.taken → Keeps left faults old new
  keeps-ended old new ready none nothing replay tracks taken =
      let no_lines : all_lines (steps_of new.agenda) ≡ [] = ap all_lines nothing.steps in
      keeps-same old new ready (nothing.all ∙ sym no_lines) (subst (λ steps. AllByRecursion IsStepInRange steps) (sym nothing.steps) tt) (λ rests fits.
      let first = none_of_rests rests (map held_record_of old.tracks) fits none in
      events-ended old.taken (steps_of old.agenda) rests first ∙ events-none old.taken (steps_of old.agenda) nothing.all
      ∙ sym (events-ended old.taken (steps_of new.agenda) rests first ∙ events-none old.taken (steps_of new.agenda) no_lines)) replay tracks taken

  -- a line ran where no capture has a record left
  pub keeps-left : (old new : Running S) (line : Line) → IsReady left faults old → first_capture_of old.tracks ≡ None → RunsALine old.replay new.replay line → GivesRest (steps_of old.agenda) line (steps_of new.agenda) → new.tracks ≡ old.tracks → new.taken ≡ old.taken → Keeps left faults old new
  keeps-left old new line ready none runs gives tracks taken =
      keeps-line old new line ready runs gives.all gives.last (λ rests fits.
      let first = none_of_rests rests (map held_record_of old.tracks) fits none in
      events-ended old.taken (steps_of old.agenda) rests first
      ∙ events-rest old.taken (steps_of old.agenda) line (steps_of new.agenda) gives
      ∙ ap (λ n. Ran line ∷ events_from n (steps_of new.agenda) []) (sym taken)
      ∙ ap (λ events. Ran line ∷ events) (sym (events-ended new.taken (steps_of new.agenda) rests first))) tracks taken

-- a line that is given is well formed
pub line-formed : (old new : List Step) (line : Line) → AreLast (Run line ∷ new) old → AllByRecursion IsStepInRange old → IsLine line
line-formed old new line last all = (formed-last old (Run line ∷ new) last all).0
