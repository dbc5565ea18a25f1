-- A capture that is audited: a record more, and all of them.
use Rattle.std.proofs.Common.{◌≡◌, ℕ, ◌<◌, ◌-◌, Option, Some, None, List, [], ◌∷◌, ◌++◌, length, map, refl, sym, ap, subst, ◌∙◌, append_assoc, true, false, Result}
use Rattle.std.specs.Prelude.{is_err}
use Rattle.run_audit.specs.AuditAnswers.{answer_of}
use Rattle.std.specs.Option.{option_map}
use Rattle.std.proofs.lemmas.List.{map-append, append-nil}
use Rattle.capture_tracks.specs.Reading.{Origin, IsRead, input_of, track_inputs}
use Rattle.capture_tracks.specs.Tracks.{Begins, GoesFurther, IsTrack, end_of, held_in, held_record_of, room_of, source_at}
use Rattle.capture_tracks.specs.declared.opened.OpenedCapture.{OpenedCapture}
use Rattle.capture_tracks.specs.declared.track.Track.{Track}
use Rattle.capture_tracks.specs.declared.track.Track.TheVariants.{Open, Refused}
use Rattle.capture_tracks.proofs.Ended.{told-track}
use Rattle.capture_tracks.proofs.Origins.{origin-open}
use Rattle.fw_command.specs.declared.script.Step.{Step}
use Rattle.report_texts.specs.declared.capture_end.CaptureEnd.{CaptureEnd}
use Rattle.fw_world.specs.Inputs.{Input}
use Rattle.pcap_read.specs.Reading.{Captured}
use Rattle.rule_chain.specs.Configuration.{Configuration}
use Rattle.run_audit.specs.Audit.{AuditValue, IsAuditOf, Meets, with_input}
use Rattle.run_audit.specs.declared.audit_fault.AuditFault.{AuditFault}
use Rattle.capture_audits.specs.CaptureAudit.{Subject, Place, IsOf, HasTrack, IsAtWork, HasMet, HasStopped, ComesTo, MeetsMore, TakesMore, MeetsAll, MeetsCapture, StopsAtCapture, ComesThrough, AuditsCapture, inputs_at, own_inputs}
use Rattle.capture_tracks.specs.Taken.{held_input}
use Rattle.capture_audits.specs.declared.capture_audit.CaptureAudit.{CaptureAudit}
use Rattle.capture_audits.specs.declared.capture_audit.Work.{Work}

-- a capture's track and the audit
abbrev pub work : {S : Type 0} → Track S → AuditValue → Work S
work track audit = record { track = track; audit = audit }

-- a record more of the capture that stands behind these
pub one_more : (before : List (List Input)) (own : List Input) (behind : ℕ) (input : Input) (place : ℕ) → length before ≡ place
    → with_input place input (inputs_at before own behind) ≡ inputs_at before (own ++ input ∷ []) behind
one_more [] own behind input place is = rw (sym is) refl
one_more (first ∷ before) own behind input place is = rw (sym is) (ap (λ (l : List (List Input)). first ∷ l) (one_more before own behind input (length before) refl))

-- the same input was met
pub meets_so : (config : Configuration) (steps : List Step) (report : List ℕ) (lane : ℕ) (input same : Input) (old new : AuditValue) → input ≡ same → Meets config steps report lane input old new → Meets config steps report lane same old new
meets_so config steps report lane input same old new is meets inputs stands = subst (λ (i : Input). IsAuditOf config steps report (with_input (lane - 1) i inputs) new) is (meets inputs stands)

-- a call that answers no fault leaves none
pub no_fault : (fault : Option AuditFault) (result : Result (Unit {0}) AuditFault) → result ≡ answer_of fault → is_err result ≡ false → fault ≡ None
no_fault None result is fine = refl
no_fault (Some fault) result is fine = absurd (let never : is_err (answer_of (Some fault)) ≡ false = ap is_err (sym is) ∙ fine in cc)

-- a call that answers a fault leaves one
pub some_fault : (fault : Option AuditFault) (result : Result (Unit {0}) AuditFault) → result ≡ answer_of fault → is_err result ≡ true → (f : AuditFault) × (fault ≡ Some f)
some_fault None result is wrong = absurd (let never : is_err (answer_of None) ≡ true = ap is_err (sym is) ∙ wrong in cc)
some_fault (Some fault) result is wrong = (fault, refl)

module _ {S : Type 0} (left : S → Option (List ℕ)) (faults : S → ℕ) where
  -- a record that a track holds is an input of its capture
  record Holds (limit : ℕ) (opened : OpenedCapture S) (track : Track S) (done : List Captured) (origin : Origin) (input : Input) : Type 0 where
    taken : Captured
    held : held_record_of track ≡ Some taken
    input_is : input ≡ input_of origin.link origin.port taken

  holds : (limit : ℕ) (opened : OpenedCapture S) (track : Track S) (done : List Captured) (origin : Origin) (input : Input) → held_input track ≡ Some input → IsTrack left faults limit opened track done origin → Holds limit opened track done origin input
  holds limit opened (Refused source end) done origin input is tracked = cc
  holds limit opened (Open track) done origin input is tracked = found (held_in track) refl
    where
      found : (o : Option Captured) → held_in track ≡ o → Holds limit opened (Open track) done origin input
      found None none =
          let never : None ≡ Some input = sym (ap (option_map (input_of track.capture.format.link track.port)) none) ∙ is in
          cc
      found (Some r) some =
          let here : Some (input_of track.capture.format.link track.port r) ≡ Some input = sym (ap (option_map (input_of track.capture.format.link track.port)) some) ∙ is in
          let same : input ≡ input_of track.capture.format.link track.port r = cc in
          record {
            taken = r;
            held = some;
            input_is = same ∙ sym (ap (λ (o : Origin). input_of o.link o.port r) (origin-open left faults limit opened track done origin r some tracked));
          }

  -- a track that the audit meets nothing of holds no record
  pub holds_none : (track : Track S) → held_input track ≡ None → held_record_of track ≡ None
  holds_none (Refused source end) is = refl
  holds_none (Open track) is = found (held_in track) refl
    where
      found : (o : Option Captured) → held_in track ≡ o → held_in track ≡ None
      found None none = none
      found (Some r) some =
          let never : Some (input_of track.capture.format.link track.port r) ≡ None = sym (ap (option_map (input_of track.capture.format.link track.port)) some) ∙ is in
          cc

  -- nothing more was met
  pub takes_none : (lane : ℕ) (w : Work S) → TakesMore left faults lane w w
  takes_none lane w subject at done place at_work = record { more = []; at_work = subst (λ records. IsAtWork left faults subject at records w) (sym (append-nil done)) at_work }

  -- the audit that met the record which the track holds stands for it too
  stands_more : (lane : ℕ) (subject : Subject) (at : Place S) (done : List Captured) (r : Captured) (input : Input) (audit after : AuditValue)
      → length at.before ≡ lane - 1 → input ≡ input_of at.origin.link at.origin.port r
      → Meets subject.config subject.steps subject.report lane input audit after
      → IsOf subject (inputs_at at.before (own_inputs at done) at.behind) audit
      → IsOf subject (inputs_at at.before (own_inputs at (done ++ r ∷ [])) at.behind) after
  stands_more lane subject at done r input audit after place is meets stands =
      let own : own_inputs at done ++ input ∷ [] ≡ own_inputs at (done ++ r ∷ []) =
      ap (λ (i : Input). own_inputs at done ++ i ∷ []) is ∙ sym (map-append (input_of at.origin.link at.origin.port) done (r ∷ [])) in
      let more = one_more at.before (own_inputs at done) at.behind input (lane - 1) place ∙ ap (λ (l : List Input). inputs_at at.before l at.behind) own in
      subst (λ (inputs : List (List Input)). IsOf subject inputs after) more (meets (inputs_at at.before (own_inputs at done) at.behind) stands)

  -- a record was met, and the track went on
  meets_one : (lane : ℕ) (subject : Subject) (at : Place S) (done : List Captured) (old new : Track S) (audit after : AuditValue) (input : Input)
      → length at.before ≡ lane - 1 → held_input old ≡ Some input → GoesFurther left faults old new → Meets subject.config subject.steps subject.report lane input audit after
      → IsAtWork left faults subject at done (work old audit) → MeetsMore left faults subject at done (work new after)
  meets_one lane subject at done old new audit after input place is goes meets at_work =
      let h = holds at.limit at.opened old done at.origin input is at_work.tracked in
      let on = goes.goes at.limit at.opened done at.origin h.taken h.held at_work.tracked in
      record {
        more = h.taken ∷ [];
        at_work = record {
          tracked = on.0;
          settled = on.1;
          stands = stands_more lane subject at done h.taken input audit after place h.input_is meets at_work.stands;
        };
      }

  -- a record more, behind those that were met
  pub takes_one : (lane : ℕ) (first : Work S) (old new : Track S) (audit after : AuditValue) (input : Input)
      → held_input old ≡ Some input → GoesFurther left faults old new → ((subject : Subject) → Meets subject.config subject.steps subject.report lane input audit after)
      → TakesMore left faults lane first (work old audit) → TakesMore left faults lane first (work new after)
  takes_one lane first old new audit after input is goes meets takes subject at done place at_work =
      let here = takes subject at done place at_work in
      let next = meets_one lane subject at (done ++ here.more) old new audit after input place is goes (meets subject) here.at_work in
      record { more = here.more ++ next.more; at_work = subst (λ records. IsAtWork left faults subject at records (work new after)) (append_assoc done here.more next.more) next.at_work }

  -- the track went on, whose capture it is
  pub tracks_on : (old new : Track S) (input : Input) → held_input old ≡ Some input → GoesFurther left faults old new → HasTrack left faults old → HasTrack left faults new × (room_of new < room_of old)
  tracks_on old new input is goes has =
      let h = holds has.limit has.opened old has.done has.origin input is has.tracked in
      let on = goes.goes has.limit has.opened has.done has.origin h.taken h.held has.tracked in
      (record { limit = has.limit; opened = has.opened; origin = has.origin; done = has.done ++ h.taken ∷ []; tracked = on.0; settled = on.1 }, on.2)

  -- no record is left
  pub all_met : (lane : ℕ) (first : Work S) (track : Track S) (audit : AuditValue) → held_input track ≡ None → audit.fault ≡ None
      → TakesMore left faults lane first (work track audit) → MeetsAll left faults lane first (work track audit)
  all_met lane first track audit none clear takes subject at done place at_work =
      let here = takes subject at done place at_work in
      let met : HasMet left faults subject at done (work track audit) = record { more = here.more; at_work = here.at_work; none = holds_none track none } in
      subst (ComesTo left faults subject at done (work track audit)) (sym clear) met

  -- the record that the track holds stopped the audit
  pub all_stopped : (lane : ℕ) (first : Work S) (track : Track S) (audit after : AuditValue) (input : Input) (fault : AuditFault)
      → held_input track ≡ Some input → ((subject : Subject) → Meets subject.config subject.steps subject.report lane input audit after) → after.fault ≡ Some fault
      → TakesMore left faults lane first (work track audit) → MeetsAll left faults lane first (work track after)
  all_stopped lane first track audit after input fault is meets stops takes subject at done place at_work =
      let here = takes subject at done place at_work in
      let h = holds at.limit at.opened track (done ++ here.more) at.origin input is here.at_work.tracked in
      let stopped : HasStopped left faults subject at done (work track after) = record {
        more = here.more;
        last = h.taken;
        tracked = here.at_work.tracked;
        held = h.held;
        stands = stands_more lane subject at (done ++ here.more) h.taken input audit after place h.input_is (meets subject) here.at_work.stands;
      } in
      subst (ComesTo left faults subject at done (work track after)) (sym stops) stopped

  -- a capture that begins
  pub begins_track : (limit : ℕ) (opened : OpenedCapture S) (track : Track S) → Begins left faults limit opened track → HasTrack left faults track
  begins_track limit opened track begins = record { limit = limit; opened = opened; origin = begins.origin; done = []; tracked = begins.begun; settled = begins.settled }

  -- a capture that was audited
  pub audits_capture : (lane limit : ℕ) (opened : OpenedCapture S) (old : AuditValue) (track last : Track S) (audit : AuditValue) (one : CaptureAudit S) → Begins left faults limit opened track
      → MeetsAll left faults lane (work track old) (work last audit) → one.audit ≡ audit → one.source ≡ source_at last → one.end ≡ end_of last
      → AuditsCapture left faults lane limit opened old one
  audits_capture lane limit opened old track last audit one begins meets audit-is source-is end-is subject before behind place stands =
      let at : Place S = record { limit = limit; opened = opened; origin = begins.origin; before = before; behind = behind } in
      let came = meets subject at [] place (record { tracked = begins.begun; settled = begins.settled; stands = stands }) in
      by_fault at audit.fault refl came
    where
      by_fault : (at : Place S) (fault : Option AuditFault) → audit.fault ≡ fault → ComesTo left faults subject at [] (work last audit) audit.fault → ComesThrough left faults subject at.limit at.opened at.before at.behind one one.audit.fault
      by_fault at None is came =
          let met : HasMet left faults subject at [] (work last audit) = subst (ComesTo left faults subject at [] (work last audit)) is came in
          let all = told-track left faults at.limit at.opened last met.more at.origin met.none met.at_work.settled met.at_work.tracked in
          let inputs : own_inputs at met.more ≡ track_inputs all.told =
          ap (own_inputs at) (sym all.records)
          ∙ ap (λ (port : _). map (input_of at.origin.link port) all.told.records) (sym (ap (λ (o : Origin). o.port) all.origin_is))
          ∙ ap (λ (link : _). map (input_of link all.told.port) all.told.records) (sym (ap (λ (o : Origin). o.link) all.origin_is)) in
          let through : MeetsCapture left faults subject at.limit at.opened at.before at.behind one = record {
            told = all.told;
            port = all.port;
            read = subst (λ s. IsRead left faults at.limit at.opened.source s all.told one.end) (sym source-is) (subst (λ (e : CaptureEnd). IsRead left faults at.limit at.opened.source (source_at last) all.told e) (sym end-is) all.read);
            stands = subst (λ (a : AuditValue). IsOf subject (inputs_at at.before (track_inputs all.told) at.behind) a) (sym audit-is)
                (subst (λ (own : List Input). IsOf subject (inputs_at at.before own at.behind) audit) inputs met.at_work.stands);
          } in
          subst (ComesThrough left faults subject at.limit at.opened at.before at.behind one) (sym (ap (λ (a : AuditValue). a.fault) audit-is ∙ is)) through
      by_fault at (Some fault) is came =
          let stopped : HasStopped left faults subject at [] (work last audit) = subst (ComesTo left faults subject at [] (work last audit)) is came in
          let through : StopsAtCapture left faults subject at.limit at.opened at.before at.behind one = record {
            track = last;
            origin = at.origin;
            done = stopped.more;
            last = stopped.last;
            tracked = stopped.tracked;
            held = stopped.held;
            source = source-is;
            stands = subst (λ (a : AuditValue). IsOf subject (inputs_at at.before (own_inputs at (stopped.more ++ stopped.last ∷ [])) at.behind) a) (sym audit-is) stopped.stands;
          } in
          subst (ComesThrough left faults subject at.limit at.opened at.before at.behind one) (sym (ap (λ (a : AuditValue). a.fault) audit-is ∙ is)) through
