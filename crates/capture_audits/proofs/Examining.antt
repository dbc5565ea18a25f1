-- Captures that are audited one after another.
use Rattle.std.proofs.Common.{◌≡◌, ℕ, suc, ◌+◌, ◌-◌, ◌≤◌, Bool, true, false, ◌||◌, Option, Some, None, List, [], ◌∷◌, ◌++◌, length, map, replicate, refl, sym, ap, subst, ◌∙◌, append_assoc, arith, is_some, reverse}
use Rattle.std.specs.List.{list_any}
use Rattle.std.proofs.lemmas.List.{map-append, append-nil, length-append, length-map, length-reverse, reverse-append, reverse-reverse}
use Rattle.capture_tracks.specs.Reading as reading
use Rattle.capture_tracks.specs.Reading.{AllRead, IsRead, input_of, track_inputs}
use Rattle.capture_tracks.specs.Tracks.{source_at}
use Rattle.capture_tracks.specs.Replay.{limit_for}
use Rattle.capture_tracks.specs.declared.opened.OpenedCapture.{OpenedCapture}
use Rattle.report_texts.specs.CaptureEnds.{is_unread}
use Rattle.report_texts.specs.declared.capture_end.CaptureEnd.{CaptureEnd}
use Rattle.fw_world.specs.Inputs.{Input}
use Rattle.capture_tracks.specs.Replay.{sources_of}
use Rattle.run_audit.specs.Audit.{AuditValue}
use Rattle.run_audit.specs.declared.audit_fault.AuditFault.{AuditFault}
use Rattle.capture_audits.specs.CaptureAudit.{Subject, IsOf, MeetsCapture, StopsAtCapture, ComesThrough, AuditsCapture, inputs_at}
use Rattle.capture_audits.specs.Examined.{CanGoOn, FailsAtOne, HasGiven, HasRoom, IsStoppedByFault, IsStoppedByRead, IsStopped, GoesOn, HasExamined, ExaminesNext, ExaminesAll}
use Rattle.capture_audits.specs.declared.capture_audit.CaptureAudit.{CaptureAudit}
use Rattle.capture_audits.specs.declared.examined.Examined.{Examined}

-- of ends and one more, some is unread where the one is, or one before
pub any_more : (ends : List CaptureEnd) (last : CaptureEnd) → list_any is_unread ends ≡ false → is_unread last ≡ false → list_any is_unread (ends ++ last ∷ []) ≡ false
any_more [] last quiet here = ap (λ b. b || false) here
any_more (end ∷ ends) last quiet here = by_first (is_unread end) (list_any is_unread ends) (list_any is_unread (ends ++ last ∷ [])) (any_more ends last) quiet here
  where
    by_first : (b rest more : Bool) → (rest ≡ false → is_unread last ≡ false → more ≡ false) → (b || rest) ≡ false → is_unread last ≡ false → (b || more) ≡ false
    by_first true rest more later quiet here = absurd (cc)
    by_first false rest more later quiet here = later quiet here

module _ {S : Type 0} (left : S → Option (List ℕ)) (faults : S → ℕ) where
  -- there are as many ends as captures that were read, and as many tracks
  pub read_counts : (limit : ℕ) (opened : List (OpenedCapture S)) (sources : List S) (tracks : List reading.Track) (ends : List CaptureEnd) → AllRead left faults limit opened sources tracks ends
      → (length ends ≡ length opened) × (length tracks ≡ length opened) × (length sources ≡ length opened)
  read_counts limit [] [] [] [] read = (refl, refl, refl)
  read_counts limit [] [] [] (e ∷ es) read = absurd read
  read_counts limit [] [] (t ∷ ts) ends read = absurd read
  read_counts limit [] (s ∷ ss) tracks ends read = absurd read
  read_counts limit (o ∷ os) [] tracks ends read = absurd read
  read_counts limit (o ∷ os) (s ∷ ss) [] ends read = absurd read
  read_counts limit (o ∷ os) (s ∷ ss) (t ∷ ts) [] read = absurd read
  read_counts limit (o ∷ os) (s ∷ ss) (t ∷ ts) (e ∷ es) read =
      let (port, here, behind) = read in
      let counts = read_counts limit os ss ts es behind in
      (ap suc counts.0, ap suc counts.1, ap suc counts.2)

  -- one capture more was read
  pub read_more : (limit : ℕ) (opened : List (OpenedCapture S)) (sources : List S) (tracks : List reading.Track) (ends : List CaptureEnd) (one : OpenedCapture S) (source : S) (track : reading.Track) (end : CaptureEnd)
      → AllRead left faults limit opened sources tracks ends → track.port ≡ one.port → IsRead left faults limit one.source source track end
      → AllRead left faults limit (opened ++ one ∷ []) (sources ++ source ∷ []) (tracks ++ track ∷ []) (ends ++ end ∷ [])
  read_more limit [] [] [] [] one source track end read port is = (port, is, tt)
  read_more limit [] [] [] (e ∷ es) one source track end read port is = absurd read
  read_more limit [] [] (t ∷ ts) ends one source track end read port is = absurd read
  read_more limit [] (s ∷ ss) tracks ends one source track end read port is = absurd read
  read_more limit (o ∷ os) [] tracks ends one source track end read port is = absurd read
  read_more limit (o ∷ os) (s ∷ ss) [] ends one source track end read port is = absurd read
  read_more limit (o ∷ os) (s ∷ ss) (t ∷ ts) [] one source track end read port is = absurd read
  read_more limit (o ∷ os) (s ∷ ss) (t ∷ ts) (e ∷ es) one source track end read port is =
      let (same, here, behind) = read in
      (same, here, read_more limit os ss ts es one source track end behind port is)

  -- ---- one capture more

  -- of one capture more that is passed by nothing was read either
  passed_more : (behind : List (OpenedCapture S)) (one : OpenedCapture S) (sources : List S) → sources ≡ sources_of behind → sources ++ one.source ∷ [] ≡ sources_of (behind ++ one ∷ [])
  passed_more behind one sources untouched = ap (λ (l : List S). l ++ one.source ∷ []) untouched ∙ sym (map-append (λ (o : OpenedCapture S). o.source) behind (one ∷ []))

  -- one more is passed by behind a capture whose source failed
  abbrev fails_more : (limit : ℕ) (opened : List (OpenedCapture S)) (one : OpenedCapture S) (sources after : List S) (place : ℕ) → after ≡ sources ++ one.source ∷ [] → FailsAtOne left faults limit opened sources place
      → FailsAtOne left faults limit (opened ++ one ∷ []) after place
  fails_more limit opened one sources after place is fails = record {
    before = fails.before;
    one = fails.one;
    behind = fails.behind ++ one ∷ [];
    split = ap (λ (l : List (OpenedCapture S)). l ++ one ∷ []) fails.split ∙ append_assoc fails.before (fails.one ∷ fails.behind) (one ∷ []);
    stands = fails.stands;
    sources_before = fails.sources_before;
    tracks = fails.tracks;
    ends = fails.ends;
    read_before = fails.read_before;
    quiet = fails.quiet;
    source = fails.source;
    sources_behind = fails.sources_behind ++ one.source ∷ [];
    untouched = passed_more fails.behind one fails.sources_behind fails.untouched;
    given_back = is ∙ ap (λ (l : List S). l ++ one.source ∷ []) fails.given_back ∙ append_assoc fails.sources_before (fails.source ∷ fails.sources_behind) (one.source ∷ []);
    same_place = fails.same_place;
    told = fails.told;
    port = fails.port;
    end = fails.end;
    read = fails.read;
    unread = fails.unread;
    all = ap length is ∙ length-append sources (one.source ∷ []) ∙ ap (λ n. n + 1) fails.all ∙ sym (length-append opened (one ∷ []));
  }

  -- one more is passed by behind a capture that gave some records
  given_more : (limit more : ℕ) (opened : List (OpenedCapture S)) (one : OpenedCapture S) (sources after : List S) (inputs : List (List Input)) → after ≡ sources ++ one.source ∷ [] → HasGiven left faults limit (suc more) opened sources inputs
      → HasGiven left faults limit more (opened ++ one ∷ []) after inputs
  given_more limit more opened one sources after inputs is has =
      let count : length has.behind + suc more ≡ length (has.behind ++ one ∷ []) + more = omega (arith, length-append has.behind (one ∷ [])) in
      record {
        before = has.before;
        one = has.one;
        behind = has.behind ++ one ∷ [];
        split = ap (λ (l : List (OpenedCapture S)). l ++ one ∷ []) has.split ∙ append_assoc has.before (has.one ∷ has.behind) (one ∷ []);
        sources_before = has.sources_before;
        tracks = has.tracks;
        ends = has.ends;
        read = has.read;
        quiet = has.quiet;
        track = has.track;
        origin = has.origin;
        done = has.done;
        last = has.last;
        tracked = has.tracked;
        held = has.held;
        sources_behind = has.sources_behind ++ one.source ∷ [];
        untouched = passed_more has.behind one has.sources_behind has.untouched;
        given_back = is ∙ ap (λ (l : List S). l ++ one.source ∷ []) has.given_back ∙ append_assoc has.sources_before (source_at has.track ∷ has.sources_behind) (one.source ∷ []);
        all = ap length is ∙ length-append sources (one.source ∷ []) ∙ ap (λ n. n + 1) has.all ∙ sym (length-append opened (one ∷ []));
        given = has.given ∙ ap (inputs_at (map track_inputs has.tracks) (map (input_of has.origin.link has.origin.port) (has.done ++ has.last ∷ []))) count;
      }

  -- a capture that is passed by
  pub passes_by : (limit : ℕ) (one : OpenedCapture S) (old new : Examined S) → old.stopped ≡ true → new.stopped ≡ true → new.audit ≡ old.audit → new.ends.items ≡ old.ends.items → new.sources.items ≡ old.sources.items ++ one.source ∷ []
      → ExaminesNext left faults limit one old new
  passes_by limit one old new was is audit ends sources = record {
    next = λ subject behind opened examined.
        let stopped : IsStopped left faults subject limit (suc behind) opened old old.audit.fault = subst (HasExamined left faults subject limit (suc behind) opened old) was examined in
        subst (HasExamined left faults subject limit behind (opened ++ one ∷ []) new) (sym is)
        (by_fault subject behind opened old.audit.fault (ap (λ (a : AuditValue). a.fault) audit) stopped);
    room = λ more room running. absurd (let never : true ≡ false = sym is ∙ running in cc);
  }
    where
      by_fault : (subject : Subject) (behind : ℕ) (opened : List (OpenedCapture S)) (fault : Option AuditFault) → new.audit.fault ≡ fault
          → IsStopped left faults subject limit (suc behind) opened old fault → IsStopped left faults subject limit behind (opened ++ one ∷ []) new new.audit.fault
      by_fault subject behind opened None same stopped =
          let fails = stopped.fails in
          let count : length fails.behind + suc behind ≡ length (fails.behind ++ one ∷ []) + behind = omega (arith, length-append fails.behind (one ∷ [])) in
          let met = inputs_at (map track_inputs fails.tracks) (track_inputs fails.told) in
          let by : IsStoppedByRead left faults subject limit behind (opened ++ one ∷ []) new = record {
            place = stopped.place;
            fails = fails_more limit opened one old.sources.items new.sources.items stopped.place sources fails;
            read = ap length ends ∙ stopped.read;
            stands = subst (λ (a : AuditValue). IsOf subject (met (length (fails.behind ++ one ∷ []) + behind)) a) (sym audit)
                (subst (λ (n : ℕ). IsOf subject (met n) old.audit) count stopped.stands);
          } in
          subst (IsStopped left faults subject limit behind (opened ++ one ∷ []) new) (sym same) by
      by_fault subject behind opened (Some fault) same stopped =
          let by : IsStoppedByFault left faults subject limit behind (opened ++ one ∷ []) new = record {
            inputs = stopped.inputs;
            given = given_more limit behind opened one old.sources.items new.sources.items stopped.inputs sources stopped.given;
            stands = subst (λ (a : AuditValue). IsOf subject stopped.inputs a) (sym audit) stopped.stands;
          } in
          subst (IsStopped left faults subject limit behind (opened ++ one ∷ []) new) (sym same) by

  -- a capture that is audited
  pub audits_next : (limit : ℕ) (one : OpenedCapture S) (old new : Examined S) (lane : ℕ) (came : CaptureAudit S) → old.stopped ≡ false → CanGoOn 1 old → lane ≡ length old.ends.items + 1
      → AuditsCapture left faults lane limit one old.audit came → length came.audit.dockets ≡ length old.audit.dockets → came.audit.lane ≤ lane
      → new.audit ≡ came.audit → new.sources.items ≡ old.sources.items ++ came.source ∷ [] → new.ends.items ≡ old.ends.items ++ came.end ∷ []
      → new.stopped ≡ (is_some came.audit.fault || is_unread came.end)
      → ExaminesNext left faults limit one old new
  audits_next limit one old new lane came was can lane-is audits dockets ordered audit sources ends stops = record {
    next = λ subject behind opened examined.
        let goes : GoesOn left faults subject limit (suc behind) opened old = subst (HasExamined left faults subject limit (suc behind) opened old) was examined in
        let counts = read_counts limit opened old.sources.items goes.met.tracks old.ends.items goes.met.read in
        let place : length (map track_inputs goes.met.tracks) ≡ lane - 1 =
        let l : length (map track_inputs goes.met.tracks) ≡ length old.ends.items = length-map goes.met.tracks track_inputs ∙ counts.1 ∙ sym counts.0 in omega (arith, l, lane-is) in
        let through = audits subject (map track_inputs goes.met.tracks) behind place goes.met.stands in
        by_fault subject behind opened goes came.audit.fault refl (is_unread came.end) refl through;
    room = λ more room running. roomy more (room was) (sym stops ∙ running);
  }
    where
      roomy : (more : ℕ) → CanGoOn (suc more) old → (is_some came.audit.fault || is_unread came.end) ≡ false → CanGoOn more new
      roomy more can quiet =
          let count : length new.ends.items ≡ length old.ends.items + 1 = ap length ends ∙ length-append old.ends.items (came.end ∷ []) in
          let room : length old.ends.items + suc more ≤ length old.audit.dockets = can.room in
          let few : length old.audit.dockets ≤ 16 = can.few in
          record {
            clear = ap (λ (a : AuditValue). a.fault) audit ∙ no_fault came.audit.fault (is_unread came.end) quiet;
            room = subst (λ n. length new.ends.items + more ≤ n) (sym (ap (λ (a : AuditValue). length a.dockets) audit ∙ dockets)) (omega (arith, count, room));
            few = subst (λ n. n ≤ 16) (sym (ap (λ (a : AuditValue). length a.dockets) audit ∙ dockets)) few;
            ordered = subst (λ n. n ≤ length new.ends.items + 1) (sym (ap (λ (a : AuditValue). a.lane) audit)) (omega (arith, count, ordered, lane-is));
          }
        where
          no_fault : (fault : Option AuditFault) (b : Bool) → (is_some fault || b) ≡ false → fault ≡ None
          no_fault None b quiet = refl
          no_fault (Some fault) b quiet = absurd (cc)

      by_fault : (subject : Subject) (behind : ℕ) (opened : List (OpenedCapture S)) → (goes : GoesOn left faults subject limit (suc behind) opened old) → (fault : Option AuditFault) → came.audit.fault ≡ fault → (unread : Bool) → is_unread came.end ≡ unread
          → ComesThrough left faults subject limit one (map track_inputs goes.met.tracks) behind came came.audit.fault
          → HasExamined left faults subject limit behind (opened ++ one ∷ []) new new.stopped
      by_fault subject behind opened goes (Some fault) is unread end through =
          let stopped : StopsAtCapture left faults subject limit one (map track_inputs goes.met.tracks) behind came = subst (ComesThrough left faults subject limit one (map track_inputs goes.met.tracks) behind came) is through in
          let counts = read_counts limit opened old.sources.items goes.met.tracks old.ends.items goes.met.read in
          let stop : new.stopped ≡ true = stops ∙ ap (λ (f : Option AuditFault). is_some f || is_unread came.end) is in
          let inputs = inputs_at (map track_inputs goes.met.tracks) (map (input_of stopped.origin.link stopped.origin.port) (stopped.done ++ stopped.last ∷ [])) behind in
          let none : List (OpenedCapture S) = [] in
          let count : behind ≡ length none + behind = omega arith in
          let by : IsStoppedByFault left faults subject limit behind (opened ++ one ∷ []) new = record {
            inputs = inputs;
            given = record {
              before = opened;
              one = one;
              behind = [];
              split = refl;
              sources_before = old.sources.items;
              tracks = goes.met.tracks;
              ends = old.ends.items;
              read = goes.met.read;
              quiet = goes.quiet;
              track = stopped.track;
              origin = stopped.origin;
              done = stopped.done;
              last = stopped.last;
              tracked = stopped.tracked;
              held = stopped.held;
              sources_behind = [];
              untouched = refl;
              given_back = sources ∙ ap (λ (s : S). old.sources.items ++ s ∷ []) stopped.source;
              all = ap length sources ∙ length-append old.sources.items (came.source ∷ []) ∙ ap (λ n. n + 1) counts.2 ∙ sym (length-append opened (one ∷ []));
              given = ap (inputs_at (map track_inputs goes.met.tracks) (map (input_of stopped.origin.link stopped.origin.port) (stopped.done ++ stopped.last ∷ []))) count;
            };
            stands = subst (λ (a : AuditValue). IsOf subject inputs a) (sym audit) stopped.stands;
          } in
          subst (HasExamined left faults subject limit behind (opened ++ one ∷ []) new) (sym stop)
          (subst (IsStopped left faults subject limit behind (opened ++ one ∷ []) new) (sym (ap (λ (a : AuditValue). a.fault) audit ∙ is)) by)
      by_fault subject behind opened goes None is true end through =
          let met : MeetsCapture left faults subject limit one (map track_inputs goes.met.tracks) behind came = subst (ComesThrough left faults subject limit one (map track_inputs goes.met.tracks) behind came) is through in
          let counts = read_counts limit opened old.sources.items goes.met.tracks old.ends.items goes.met.read in
          let stop : new.stopped ≡ true = stops ∙ ap (λ (f : Option AuditFault). is_some f || is_unread came.end) is ∙ end in
          let met_here = inputs_at (map track_inputs goes.met.tracks) (track_inputs met.told) in
          let none : List (OpenedCapture S) = [] in
          let count : behind ≡ length none + behind = omega arith in
          let by : IsStoppedByRead left faults subject limit behind (opened ++ one ∷ []) new = record {
            place = length opened;
            fails = record {
              before = opened;
              one = one;
              behind = [];
              split = refl;
              stands = refl;
              sources_before = old.sources.items;
              tracks = goes.met.tracks;
              ends = old.ends.items;
              read_before = goes.met.read;
              quiet = goes.quiet;
              source = came.source;
              sources_behind = [];
              untouched = refl;
              given_back = sources;
              same_place = counts.2;
              told = met.told;
              port = met.port;
              end = came.end;
              read = met.read;
              unread = end;
              all = ap length sources ∙ length-append old.sources.items (came.source ∷ []) ∙ ap (λ n. n + 1) counts.2 ∙ sym (length-append opened (one ∷ []));
            };
            read = ap length ends ∙ length-append old.ends.items (came.end ∷ []) ∙ ap (λ n. n + 1) counts.0;
            stands = subst (λ (a : AuditValue). IsOf subject (met_here (length none + behind)) a) (sym audit)
                (subst (λ (n : ℕ). IsOf subject (met_here n) came.audit) count met.stands);
          } in
          subst (HasExamined left faults subject limit behind (opened ++ one ∷ []) new) (sym stop)
          (subst (IsStopped left faults subject limit behind (opened ++ one ∷ []) new) (sym (ap (λ (a : AuditValue). a.fault) audit ∙ is)) by)
      by_fault subject behind opened goes None is false end through =
          let met : MeetsCapture left faults subject limit one (map track_inputs goes.met.tracks) behind came = subst (ComesThrough left faults subject limit one (map track_inputs goes.met.tracks) behind came) is through in
          let stop : new.stopped ≡ false = stops ∙ ap (λ (f : Option AuditFault). is_some f || is_unread came.end) is ∙ end in
          let inputs : inputs_at (map track_inputs goes.met.tracks) (track_inputs met.told) behind ≡ map track_inputs (goes.met.tracks ++ met.told ∷ []) ++ replicate behind [] =
          sym (append_assoc (map track_inputs goes.met.tracks) (track_inputs met.told ∷ []) (replicate behind [])) ∙ ap (λ (l : List (List Input)). l ++ replicate behind []) (sym (map-append track_inputs goes.met.tracks (met.told ∷ []))) in
          let on : GoesOn left faults subject limit behind (opened ++ one ∷ []) new = record {
            clear = ap (λ (a : AuditValue). a.fault) audit ∙ is;
            quiet = ap (list_any is_unread) ends ∙ any_more old.ends.items came.end goes.quiet end;
            met = record {
              tracks = goes.met.tracks ++ met.told ∷ [];
              read = subst (λ (ss : List S). AllRead left faults limit (opened ++ one ∷ []) ss (goes.met.tracks ++ met.told ∷ []) new.ends.items) (sym sources)
                  (subst (λ (es : List CaptureEnd). AllRead left faults limit (opened ++ one ∷ []) (old.sources.items ++ came.source ∷ []) (goes.met.tracks ++ met.told ∷ []) es) (sym ends)
                  (read_more limit opened old.sources.items goes.met.tracks old.ends.items one came.source met.told came.end goes.met.read met.port met.read));
              stands = subst (λ (a : AuditValue). IsOf subject (map track_inputs (goes.met.tracks ++ met.told ∷ []) ++ replicate behind []) a) (sym audit) (subst (λ (i : List (List Input)). IsOf subject i came.audit) inputs met.stands);
            };
          } in
          subst (HasExamined left faults subject limit behind (opened ++ one ∷ []) new) (sym stop) on

  -- ---- all captures

  -- The captures before those that are left, the last of which comes first, were audited or passed by.
  pub record FrontExamined (opened rest : List (OpenedCapture S)) (audit : AuditValue) (e : Examined S) : Type 0 where
    pub done : List (OpenedCapture S)
    pub split : opened ≡ done ++ reverse rest
    pub examined : (subject : Subject) → IsOf subject (replicate (length opened) []) audit → HasExamined left faults subject (limit_for (length opened)) (length rest) done e e.stopped
    pub room : HasRoom (length rest) e

  -- none was audited yet
  pub front_none : (opened rest : List (OpenedCapture S)) (audit : AuditValue) (e : Examined S) → rest ≡ reverse opened → e.audit ≡ audit → e.stopped ≡ false → e.sources.items ≡ [] → e.ends.items ≡ []
      → audit.fault ≡ None → length audit.dockets ≡ length opened → length opened ≤ 16 → audit.lane ≡ 1
      → FrontExamined opened rest audit e
  front_none opened rest audit e all same running sources ends clear dockets few lane = record {
    done = [];
    split = sym (reverse-reverse opened) ∙ ap reverse (sym all);
    examined = λ subject stands.
        let count : length opened ≡ length rest = sym (length-reverse opened) ∙ ap length (sym all) in
        let on : GoesOn left faults subject (limit_for (length opened)) (length rest) [] e = record {
          clear = ap (λ (a : AuditValue). a.fault) same ∙ clear;
          quiet = ap (list_any is_unread) ends;
          met = record {
            tracks = [];
            read = subst (λ (ss : List S). AllRead left faults (limit_for (length opened)) [] ss [] e.ends.items) (sym sources)
                (subst (λ (es : List CaptureEnd). AllRead left faults (limit_for (length opened)) [] [] [] es) (sym ends) tt);
            stands = subst (λ (n : ℕ). IsOf subject (replicate n []) e.audit) count (subst (λ (a : AuditValue). IsOf subject (replicate (length opened) []) a) (sym same) stands);
          };
        } in
        subst (HasExamined left faults subject (limit_for (length opened)) (length rest) [] e) (sym running) on;
    room = λ _.
        let count : length opened ≡ length rest = sym (length-reverse opened) ∙ ap length (sym all) in
        let none : length e.ends.items ≡ 0 = ap length ends in
        let as_many : length e.audit.dockets ≡ length opened = ap (λ (a : AuditValue). length a.dockets) same ∙ dockets in
        let first : e.audit.lane ≡ 1 = ap (λ (a : AuditValue). a.lane) same ∙ lane in
        record {
          clear = ap (λ (a : AuditValue). a.fault) same ∙ clear;
          room = omega (arith, count, none, as_many);
          few = omega (arith, as_many, few);
          ordered = omega (arith, none, first);
        };
  }

  -- one more was audited or passed by
  pub front_more : (opened rest new : List (OpenedCapture S)) (one : OpenedCapture S) (audit : AuditValue) (e after : Examined S) → rest ≡ new ++ one ∷ [] → FrontExamined opened rest audit e
      → ExaminesNext left faults (limit_for (length opened)) one e after → FrontExamined opened new audit after
  front_more opened rest new one audit e after is front next =
      let count : length rest ≡ suc (length new) = ap length is ∙ length-append new (one ∷ []) ∙ omega arith in
      record {
        done = front.done ++ one ∷ [];
        split = front.split ∙ ap (λ (l : List (OpenedCapture S)). front.done ++ reverse l) is ∙ ap (λ (l : List (OpenedCapture S)). front.done ++ l) (reverse-append new (one ∷ []))
            ∙ sym (append_assoc front.done (one ∷ []) (reverse new));
        examined = λ subject stands.
            next.next subject (length new) front.done (subst (λ (n : ℕ). HasExamined left faults subject (limit_for (length opened)) n front.done e e.stopped) count (front.examined subject stands));
        room = next.room (length new) (subst (λ (n : ℕ). HasRoom n e) count front.room);
      }

  -- so many are left that one more can be audited
  pub front_room : (opened rest new : List (OpenedCapture S)) (one : OpenedCapture S) (audit : AuditValue) (e : Examined S) → rest ≡ new ++ one ∷ [] → FrontExamined opened rest audit e → HasRoom 1 e
  front_room opened rest new one audit e is front = λ running.
      let can = front.room running in
      let count : length rest ≡ suc (length new) = ap length is ∙ length-append new (one ∷ []) ∙ omega arith in
      record { clear = can.clear; room = omega (arith, can.room, count); few = can.few; ordered = can.ordered }

  -- none is left
  pub no_items : (xs : List (OpenedCapture S)) → length xs ≡ 0 → xs ≡ []
  no_items [] none = refl
  no_items (x ∷ xs) none = absurd (omega arith)

  -- none is left, and all were audited or passed by
  pub front_all : (opened rest : List (OpenedCapture S)) (audit : AuditValue) (e : Examined S) → rest ≡ [] → FrontExamined opened rest audit e → ExaminesAll left faults opened audit e
  front_all opened rest audit e none front subject stands =
      let all : opened ≡ front.done = front.split ∙ ap (λ (l : List (OpenedCapture S)). front.done ++ reverse l) none ∙ append-nil front.done in
      subst (λ (os : List (OpenedCapture S)). HasExamined left faults subject (limit_for (length opened)) 0 os e e.stopped) (sym all)
      (subst (λ (l : List (OpenedCapture S)). HasExamined left faults subject (limit_for (length opened)) (length l) front.done e e.stopped) none (front.examined subject stands))
