-- What a replay prints, with its journal and without a cache, is the report of what stands under its names.
use Rattle.std.specs.Bool.{⊤}
use Rattle.std.proofs.Common.{◌≡◌, ◌≢◌, ℕ, ◌<◌, ◌≤◌, Bool, true, false, if◌then◌else◌, List, [], ◌∷◌, ◌++◌, Option, None, Some, Result, Ok, Err, length, map, nat_lt, nat_eq, refl, ap, ◌∙◌, sym, subst, arith, inl, inr, ◌||◌, append-nil}
use Rattle.std.specs.Cmp.Lexicographic.{pointwise}
use Rattle.std.specs.Io.KnownBytes.{Appends, IsAtEnd}
use Rattle.std.specs.List.{list_any}
use Rattle.std.specs.Option.{option_map}
use Rattle.std.specs.Prelude.{MatchOption}
use Rattle.std.proofs.lemmas.Bool.{or_parts}
use Rattle.std.proofs.lemmas.Bool.Decides.{nat_tests}
use Rattle.std.proofs.lemmas.Option.{some_pair_parts}
use Rattle.buffered_io.specs.WholeSource.{ReadsAll}
use Rattle.capture_tracks.specs.Commands.{lines_outcome}
use Rattle.capture_tracks.specs.Reading as reading
use Rattle.capture_tracks.specs.Reading.{AllRead, IsEnd, IsRead, input_of, origin_of, track_inputs}
use Rattle.capture_tracks.specs.Replay.{limit_for}
use Rattle.capture_tracks.specs.declared.opened.OpenedCapture.{OpenedCapture}
use Rattle.command_words.specs.Words.{CaptureNames}
use Rattle.command_words.specs.declared.invocation.Mode.{Mode}
use Rattle.command_words.specs.declared.invocation.Mode.TheVariants.{Serial, Live}
use Rattle.fw_base.specs.Faults.{Rose}
use Rattle.fw_base.specs.Pairs.{Pair, TakesOut, take_first, take_named}
use Rattle.fw_command.specs.Lines.{lines_of}
use Rattle.fw_command.specs.Scripts as scripts
use Rattle.fw_command.specs.Scripts.{allowed_statement, first_place, next_place, script_from, script_of, statement_at, with_line_number, with_statement}
use Rattle.fw_command.specs.Statements.{says}
use Rattle.fw_command.specs.declared.script.Pace.{Pace}
use Rattle.fw_command.specs.declared.script.Pace.TheVariants as pace
use Rattle.fw_command.specs.declared.script.Script.{Script}
use Rattle.fw_command.specs.declared.script_fault.ScriptFault.{ScriptFault}
use Rattle.fw_command.specs.declared.script_fault.ScriptFault.TheVariants.{TooLong, TooManyLines}
use Rattle.report_texts.specs.CaptureEnds.{is_unread}
use Rattle.report_texts.specs.Report.{report_text}
use Rattle.report_texts.specs.declared.capture_end.CaptureEnd.{CaptureEnd}
use Rattle.report_texts.specs.declared.capture_end.CaptureEnd.TheVariants.{Read, Stopped}
use Rattle.report_texts.specs.declared.ends.LineAnswer.{LineAnswer}
use Rattle.fw_world.specs.Inputs.{Input}
use Rattle.fw_world.specs.Legal.{IsLegal}
use Rattle.fw_world.specs.RecordValue.{RecordValue}
use Rattle.fw_world.specs.RecordedHits.{recorded_hits}
use Rattle.pcap_read.specs.Reading.{Captured, Closed, Open, Place, Stops}
use Rattle.pcap_read.specs.declared.capture_fault.CaptureFault.{CaptureFault}
use Rattle.pcap_read.specs.declared.capture_fault.CaptureFault.TheVariants.{ReadFault}
use Rattle.record_laws.specs.SameCaptures.{printed_end}
use Rattle.record_laws.proofs.SameEnds.{ended_of_stop, same_report}
use Rattle.replay_setup.specs.FirstEdition.{◌>>=◌, configuration_behind, first_edition, listings_of, read_script}
use Rattle.replay_setup.specs.InMemory.{known_left, no_failures}
use Rattle.replay_setup.specs.Openings.{OpensAll, port_of}
use Rattle.replay_setup.specs.Outside.{Files, Output}
use Rattle.replay_driver.specs.Promises.{IsReported}
use Rattle.capture_tracks.specs.Reported.{report_record}
use Rattle.replay_driver.specs.RunResult.{is_refused, is_stopped, report_status}
use Rattle.replay_driver.specs.Served.{ReplayNames}
use Rattle.replay_setup.specs.FirstEdition.{pace_of}
use Rattle.replay_setup.specs.declared.outcome.Outcome.{Outcome}
use Rattle.replay_setup.specs.declared.first_edition.FirstEdition.{FirstEdition}
use Rattle.replay_setup.specs.declared.script_error.ScriptError.{ScriptError}
use Rattle.rule_chain.specs.Configuration.{Configuration}
use Rattle.rule_chain.specs.First.{first_configuration}
use Rattle.rule_edits.proofs.FlowNames.{name_same}
use Rattle.audit_driver.specs.Found.{text_of}
use Rattle.audit_driver.specs.Printed.{AreUnder}
use Rattle.run_driver.specs.RunReports.{RunsTakeReports, TakesReport}
use Rattle.audit_driver.proofs.SameReadings.{AreSameFiles, first_of, same_count, told_alone}

-- ---- the script

-- the first element that passes does
first_passes : {X : Type 0} (test : X → Bool) (xs : List X) (x : X) (rest : List X) → take_first test xs ≡ Some (x, rest) → test x ≡ true
first_passes test [] x rest is = absurd (cc)
first_passes {X} test (y ∷ xs) x rest is = by_test (test y) refl is (λ others more. first_passes test xs x others more)
  where
    by_rest : (found : Option (X × List X)) → take_first test xs ≡ found → option_map {U = X × List X} (λ (f : X × List X). (f.0, y ∷ f.1)) found ≡ Some (x, rest) → ((others : List X) → take_first test xs ≡ Some (x, others) → test x ≡ true) → test x ≡ true
    by_rest None found is more = absurd (cc)
    by_rest (Some f) found is more =
        let same : f.0 ≡ x = (some_pair_parts f.0 x (y ∷ f.1) rest is).0 in
        more f.1 (found ∙ ap (λ (one : X). let o : Option (X × List X) = Some (one, f.1) in o) same)

    by_test : (b : Bool) → test y ≡ b → (let o : Option (X × List X) = if b then Some (y, xs) else option_map {U = X × List X} (λ (f : X × List X). (f.0, y ∷ f.1)) (take_first test xs) in o) ≡ Some (x, rest)
        → ((others : List X) → take_first test xs ≡ Some (x, others) → test x ≡ true) → test x ≡ true
    by_test true passes is more = let same : y ≡ x = (some_pair_parts y x xs rest is).0 in ap test (sym same) ∙ passes
    by_test false fails is more = by_rest (take_first test xs) refl is more

-- What an opening takes out of a told list.
record Takes (told : List Pair) (after : Option (List Pair)) (name : List ℕ) (left : Option (List ℕ)) : Type 0 where
  bytes : List ℕ
  behind : List Pair
  stands : take_named name told ≡ Some ((name, bytes), behind)
  gives : left ≡ Some bytes
  leaves : after ≡ Some behind

takes : (before after : Option (List Pair)) (told : List Pair) (name : List ℕ) (left : Option (List ℕ)) → TakesOut before after name left → before ≡ Some told → Takes told after name left
takes None after told name left took is = absurd (cc)
takes (Some pairs) after told name left took is =
    let same : pairs ≡ told = cc in
    subst (λ (l : List Pair). Takes l after name left) same (by_place (take_named name pairs) refl took)
  where
    by_place : (found : Option (Pair × List Pair)) → take_named name pairs ≡ found → MatchOption found ⊥ (λ f. (left ≡ Some f.0.1) × (after ≡ Some f.1)) → Takes pairs after name left
    by_place None is took = absurd took
    by_place (Some f) is took =
        let named : f.0.0 ≡ name = (name_same f.0.0 name).0 (first_passes (λ (p : Pair). pointwise nat_eq p.0 name) pairs f.0 f.1 is) in
        record {
          bytes = f.0.1;
          behind = f.1;
          stands = is ∙ ap (λ (n : List ℕ). let o : Option (Pair × List Pair) = Some ((n, f.0.1), f.1) in o) named;
          gives = took.0;
          leaves = took.1;
        }

-- what stands where there is no `after`
abbrev first_taken : {X Y Z : Type 0} → (X → Y → Z) → Type 0
first_taken {X} {Y} {Z} f = X

abbrev second_taken : {X Y Z : Type 0} → (X → Y → Z) → Type 0
second_taken {X} {Y} {Z} f = Y

abbrev LinePlace : Type 0
LinePlace = first_taken next_place

abbrev Said : Type 0
Said = second_taken next_place

allowed_too : (place : LinePlace) (said other : Said) → allowed_statement pace.Live place said ≡ Ok other → allowed_statement pace.Serial place said ≡ Ok other
allowed_too place said other is = grind arith

line_too : (place : LinePlace) (line : List ℕ) (other : Said) → statement_at pace.Live place line ≡ Ok other → statement_at pace.Serial place line ≡ Ok other
unfolding statement_at
line_too place line other is = by_said (with_line_number place.line (says _ line)) is
  where
    by_said : (r : Result Said ScriptFault) → scripts.◌>>=◌ r (allowed_statement pace.Live place) ≡ Ok other → scripts.◌>>=◌ r (allowed_statement pace.Serial place) ≡ Ok other
    by_said (Ok said) is = allowed_too place said other is
    by_said (Err fault) is = absurd (cc)

-- what a line and those behind it come to
abbrev behind_line : Pace → LinePlace → List (List ℕ) → Said → Result Script ScriptFault
behind_line p place lines said = scripts.◌>>=◌ (script_from p (next_place place said) lines) (λ (others : Script). let all : Result Script ScriptFault = Ok (with_statement place said others) in all)

lines_too : (place : LinePlace) (lines : List (List ℕ)) (script : Script) → script_from pace.Live place lines ≡ Ok script → script_from pace.Serial place lines ≡ Ok script
unfolding script_from
lines_too place [] script is = is
lines_too place (line ∷ lines) script is =
    by_line (statement_at pace.Live place line) refl is (λ said others more. lines_too (next_place place said) lines others more)
  where
    by_rest : (said : Said) (r : Result Script ScriptFault) → script_from pace.Live (next_place place said) lines ≡ r → scripts.◌>>=◌ r (λ (others : Script). let all : Result Script ScriptFault = Ok (with_statement place said others) in all) ≡ Ok script
        → ((others : Script) → script_from pace.Live (next_place place said) lines ≡ Ok others → script_from pace.Serial (next_place place said) lines ≡ Ok others)
        → scripts.◌>>=◌ (script_from pace.Serial (next_place place said) lines) (λ (others : Script). let all : Result Script ScriptFault = Ok (with_statement place said others) in all) ≡ Ok script
    by_rest said (Err fault) rest is more = absurd (cc)
    by_rest said (Ok others) rest is more = ap (λ (r : Result Script ScriptFault). scripts.◌>>=◌ r (λ (others : Script). let all : Result Script ScriptFault = Ok (with_statement place said others) in all)) (more others rest) ∙ is

    by_line : (r : Result Said ScriptFault) → statement_at pace.Live place line ≡ r → scripts.◌>>=◌ r (behind_line pace.Live place lines) ≡ Ok script
        → ((said : Said) (others : Script) → script_from pace.Live (next_place place said) lines ≡ Ok others → script_from pace.Serial (next_place place said) lines ≡ Ok others)
        → scripts.◌>>=◌ (statement_at pace.Serial place line) (behind_line pace.Serial place lines) ≡ Ok script
    by_line (Err fault) one is more = absurd (cc)
    by_line (Ok said) one is more =
        ap (λ (r : Result Said ScriptFault). scripts.◌>>=◌ r (behind_line pace.Serial place lines)) (line_too place line said one)
        ∙ by_rest said (script_from pace.Live (next_place place said) lines) refl is (more said)

-- a script of a live run is one of a serial run
script_too : (bytes : List ℕ) (script : Script) → script_of pace.Live bytes ≡ Ok script → script_of pace.Serial bytes ≡ Ok script
unfolding script_of
script_too bytes script is = by_size (nat_lt 1048576 (length bytes)) is
  where
    by_lines : (b : Bool) → (let r : Result Script ScriptFault = if b then Err TooManyLines else script_from pace.Live first_place (lines_of bytes) in r) ≡ Ok script
        → (let r : Result Script ScriptFault = if b then Err TooManyLines else script_from pace.Serial first_place (lines_of bytes) in r) ≡ Ok script
    by_lines true is = absurd (cc)
    by_lines false is = lines_too first_place (lines_of bytes) script is

    by_size : (b : Bool) → (let r : Result Script ScriptFault = if b then Err TooLong else if nat_lt 65536 (length (lines_of bytes)) then Err TooManyLines else script_from pace.Live first_place (lines_of bytes) in r) ≡ Ok script
        → (let r : Result Script ScriptFault = if b then Err TooLong else if nat_lt 65536 (length (lines_of bytes)) then Err TooManyLines else script_from pace.Serial first_place (lines_of bytes) in r) ≡ Ok script
    by_size true is = absurd (cc)
    by_size false is = by_lines (nat_lt 65536 (length (lines_of bytes))) is

-- so the edition is the same one
abbrev behind_script : Result Script ScriptFault → Result FirstEdition ScriptError
behind_script r =
    read_script r >>= λ (script : Script). configuration_behind first_configuration script.before >>= λ (config : Configuration). listings_of config script.before >>= λ (answers : List LineAnswer).
    let all : Result FirstEdition ScriptError = Ok (record { config = config; answers = answers; live = script.live }) in all

edition_too : (mode : Mode) (bytes : List ℕ) (edition : FirstEdition) → first_edition (pace_of mode) bytes ≡ Ok edition → first_edition (pace_of Serial) bytes ≡ Ok edition
unfolding first_edition
edition_too Serial bytes edition is = is
edition_too Live bytes edition is = by_script (script_of pace.Live bytes) refl is
  where
    by_script : (r : Result Script ScriptFault) → script_of pace.Live bytes ≡ r → behind_script r ≡ Ok edition → behind_script (script_of pace.Serial bytes) ≡ Ok edition
    by_script (Err fault) one is = absurd (cc)
    by_script (Ok script) one is = ap behind_script (script_too bytes script one) ∙ is

-- a script that is read isn't too long
script_short : (pace : Pace) (bytes : List ℕ) (edition : FirstEdition) → first_edition pace bytes ≡ Ok edition → length bytes ≤ 1048576
unfolding first_edition script_of
script_short pace bytes edition is = by_size (nat_lt 1048576 (length bytes)) refl is
  where
    by_size : (b : Bool) → nat_lt 1048576 (length bytes) ≡ b
        → behind_script (if b then Err TooLong else if nat_lt 65536 (length (lines_of bytes)) then Err TooManyLines else script_from pace first_place (lines_of bytes)) ≡ Ok edition → length bytes ≤ 1048576
    by_size true size is = absurd (cc)
    by_size false size is = grind (arith, nat_tests)

-- fewer bytes than the limit are the whole file
whole_file : (most : ℕ) (file bytes : List ℕ) (after : Option (List ℕ)) (before now : ℕ) → ReadsAll (Some file) after before now most bytes → length bytes < most → bytes ≡ file
whole_file most file bytes None before now reads short = absurd reads.taken
whole_file most file bytes (Some rest) before now reads short =
    let split : file ≡ bytes ++ rest = reads.taken in
    sym (split ∙ ap (λ (l : List ℕ). bytes ++ l) (reads.end short) ∙ append-nil bytes)

-- ---- the captures

-- Captures that stand under the names, with the bytes that the opened sources tell.
record StandsFor {S : Type 0} (left : S → Option (List ℕ)) (names : List CaptureNames) (told : List Pair) (opened : List (OpenedCapture S)) : Type 0 where
  captures : List (OpenedCapture (List ℕ))
  under : AreUnder names told captures
  same : AreSameFiles left opened captures

module _ {L S : Type 0} (files : Files L S) where
  stands_for : (old new : L) (names : List CaptureNames) (opened : List (OpenedCapture S)) (told : List Pair) → OpensAll files old new names opened → files.pairs old ≡ Some told → StandsFor files.left names told opened
  stands_for old new [] [] told all is = record { captures = []; under = tt; same = tt }
  stands_for old new [] (o ∷ opened) told all is = absurd all
  stands_for old new (name ∷ names) [] told all is = absurd all
  stands_for old new (name ∷ names) (o ∷ opened) told (port, between, opens, more) is =
      let one = takes (files.pairs old) (files.pairs between) told name.name (files.left o.source) opens.took is in
      let rest = stands_for between new names opened one.behind more one.leaves in
      record {
        captures = record { port = port_of name; source = one.bytes } ∷ rest.captures;
        under = (refl, one.behind, one.stands, rest.under);
        same = (port, one.gives, rest.same);
      }

-- ---- what is read of them

-- a capture's track with all its bytes
abbrev with_bytes : reading.Track → List ℕ → reading.Track
with_bytes track bytes = record track { bytes = bytes }

-- where no read failed a reader stops with what stands there
stops_well : (at : Place) (stop : Option CaptureFault) → Stops ⊤ ⊤ at stop → stop ≢ Some ReadFault → Stops (IsAtEnd (Some [])) (Rose 0 0) at stop
stops_well (Closed fault) stop is fine = is
stops_well (Open at) stop (inl is) fine = inl (refl, is.1)
stops_well (Open at) stop (inr is) fine = absurd (fine is.1)

printed_told : (end : CaptureEnd) (records : List Captured) (number : ℕ) (stop : Option CaptureFault) (count : ℕ) → IsEnd end records number stop count → IsEnd (printed_end end) records number stop 0
printed_told (Read n) records number stop count is = is
printed_told (Stopped at fault n) records number stop count is = (is.0, is.1, refl)

printed_unread : (end : CaptureEnd) → is_unread (printed_end end) ≡ is_unread end
printed_unread (Read n) = refl
printed_unread (Stopped at fault n) = refl

printed_twice : (end : CaptureEnd) → printed_end (printed_end end) ≡ printed_end end
printed_twice (Read n) = refl
printed_twice (Stopped at fault n) = refl

-- What is read of captures that hold these bytes.
record IsReadAgain (limit : ℕ) (captures : List (OpenedCapture (List ℕ))) (tracks : List reading.Track) (ends : List CaptureEnd) : Type 0 where
  rests : List (List ℕ)
  told : List reading.Track
  read : AllRead known_left no_failures limit captures rests told (map printed_end ends)
  inputs : map track_inputs told ≡ map track_inputs tracks
  whole : list_any is_unread (map printed_end ends) ≡ false
  alike : map printed_end ends ≡ map printed_end (map printed_end ends)

module _ {S : Type 0} (left : S → Option (List ℕ)) (faults : S → ℕ) where
  record IsOneAgain (limit : ℕ) (capture : OpenedCapture (List ℕ)) (track : reading.Track) (end : CaptureEnd) : Type 0 where
    read : IsRead known_left no_failures limit capture.source [] (with_bytes track capture.source) (printed_end end)
    inputs : track_inputs (with_bytes track capture.source) ≡ track_inputs track

  one_again : (limit : ℕ) (opened : OpenedCapture S) (capture : OpenedCapture (List ℕ)) (after : S) (track : reading.Track) (end : CaptureEnd) → left opened.source ≡ Some capture.source → track.port ≡ opened.port
      → IsRead left faults limit opened.source after track end → is_unread end ≡ false → IsOneAgain limit capture track end
  one_again limit opened capture after track end told port read whole =
      let alone = told_alone left faults limit opened after track end capture.source port read whole told in
      let ended = alone.ended.0 in
      let fine : ended.stop ≢ Some ReadFault = λ fails. let unread = ended_of_stop end track.records _ ended.stop ended.count ended.told fails in let no : false ≡ true = sym whole ∙ unread in absurd (cc) in
      let origin : origin_of (with_bytes track capture.source) ≡ origin_of track = sym (first_of _ _ alone.same.origins) in
      record {
        read = record {
          number = _;
          stop = ended.stop;
          stopped = record {
            taken = sym (append-nil capture.source);
            behind = (ended.place, ended.front, stops_well ended.place ended.stop ended.stops fine, refl);
            cause = record { failed_read = λ fails. absurd (fine fails); steady = λ other. refl };
          };
          told = printed_told end track.records _ ended.stop ended.count ended.told;
        };
        inputs = λ i. map (input_of (origin i).link (origin i).port) track.records;
      }

  all_again : (limit : ℕ) (opened : List (OpenedCapture S)) (captures : List (OpenedCapture (List ℕ))) (sources : List S) (tracks : List reading.Track) (ends : List CaptureEnd) → AreSameFiles left opened captures
      → AllRead left faults limit opened sources tracks ends → list_any is_unread ends ≡ false → IsReadAgain limit captures tracks ends
  all_again limit [] [] [] [] [] same read whole = record { rests = []; told = []; read = tt; inputs = refl; whole = refl; alike = refl }
  all_again limit [] [] [] [] (end ∷ ends) same read whole = absurd read
  all_again limit [] [] [] (track ∷ tracks) ends same read whole = absurd read
  all_again limit [] [] (source ∷ sources) tracks ends same read whole = absurd read
  all_again limit [] (c ∷ captures) sources tracks ends same read whole = absurd same
  all_again limit (o ∷ opened) [] sources tracks ends same read whole = absurd same
  all_again limit (o ∷ opened) (c ∷ captures) [] tracks ends same read whole = absurd read
  all_again limit (o ∷ opened) (c ∷ captures) (source ∷ sources) [] ends same read whole = absurd read
  all_again limit (o ∷ opened) (c ∷ captures) (source ∷ sources) (track ∷ tracks) [] same read whole = absurd read
  all_again limit (o ∷ opened) (c ∷ captures) (source ∷ sources) (track ∷ tracks) (end ∷ ends) same read whole =
      let (here, behind) = or_parts (is_unread end) (list_any is_unread ends) whole in
      let one = one_again limit o c source track end same.1 read.0 read.1 here in
      let rest = all_again limit opened captures sources tracks ends same.2 read.2 behind in
      record {
        rests = [] ∷ rest.rests;
        told = with_bytes track c.source ∷ rest.told;
        read = (read.0 ∙ same.0, one.read, rest.read);
        inputs = λ i. one.inputs i ∷ rest.inputs i;
        whole = ap (λ (b : Bool). b || list_any is_unread (map printed_end ends)) (printed_unread end ∙ here) ∙ rest.whole;
        alike = λ i. sym (printed_twice end) i ∷ rest.alike i;
      }

-- ---- the report

-- with a status of at most 3 no read failed
none_unread : (ends : List CaptureEnd) (answers : List LineAnswer) → report_status ends answers ≤ 3 → list_any is_unread ends ≡ false
unfolding report_status
none_unread ends answers low = by_test (list_any is_unread ends) refl low
  where
    by_test : (b : Bool) → list_any is_unread ends ≡ b → (if b then 4 else if list_any is_stopped ends then 3 else if list_any is_refused answers then 2 else 0) ≤ 3 → list_any is_unread ends ≡ false
    by_test true is low = absurd (omega arith)
    by_test false is low = is

module _ {K S L : Type 0} (output : Output K) (files : Files L S) where
  -- the report of a run that kept a record
  takes_report : (names : ReplayNames) (library libraryAfter : L) (sink sinkAfter : K) (outcome : Outcome S) (kept : RecordValue) (told : List Pair) → names.journal ≡ true → names.cache ≡ None → files.pairs library ≡ Some told
      → (r : IsReported output files names library libraryAfter sink sinkAfter outcome kept) → report_status outcome.ends.captures outcome.ends.answers ≤ 3
      → Appends (output.written sink) (output.written sinkAfter) (report_text (report_record kept) outcome.ends.captures outcome.ends.answers names.journal)
      → TakesReport output files names told sink sinkAfter
  takes_report names library libraryAfter sink sinkAfter outcome kept told journal cache lists r low appended =
      let beside = r.replay.beside in
      let edition = r.replay.edition in
      let script = takes (files.pairs library) (files.pairs r.reads.between) told names.script (files.left r.reads.script_read.opened) r.reads.script_read.opens.took lists in
      let short = script_short (pace_of names.mode) r.bytes edition r.replay.first in
      let bytes : r.bytes ≡ script.bytes =
      whole_file 1048577 script.bytes r.bytes (files.left r.script) (files.failures r.reads.script_read.opened) (files.failures r.script)
      (subst (λ (l : Option (List ℕ)). ReadsAll l (files.left r.script) (files.failures r.reads.script_read.opened) (files.failures r.script) 1048577 r.bytes) script.gives r.reads.script_read.reads) (omega (arith, short)) in
      let stand = stands_for files r.reads.between libraryAfter names.captures r.opened script.behind r.reads.captures_opened script.leaves in
      let ends : List CaptureEnd = beside.replayed.ends.captures in
      let unread : list_any is_unread ends ≡ false = ap (list_any is_unread) (sym beside.captures_ended) ∙ none_unread outcome.ends.captures outcome.ends.answers low in
      let again = all_again files.left files.failures (limit_for (length r.opened)) r.opened stand.captures beside.replayed.sources.items beside.replay.tracks ends stand.same beside.replay.read unread in
      let record_of : RecordValue = beside.replayed.record in
      let answers : outcome.ends.answers ≡ edition.answers ++ (lines_outcome edition.config edition.live).answers = beside.lines_answered ∙ ap (λ (l : List LineAnswer). edition.answers ++ l) beside.replay.answered in
      let text : report_text (report_record kept) outcome.ends.captures outcome.ends.answers names.journal ≡ text_of edition record_of (map printed_end ends) =
      ap (report_text (report_record kept) outcome.ends.captures outcome.ends.answers) journal
      ∙ ap (λ (k : RecordValue). report_text (report_record k) outcome.ends.captures outcome.ends.answers true) beside.recorded
      ∙ ap (λ (c : List CaptureEnd). report_text (report_record record_of) c outcome.ends.answers true) beside.captures_ended
      ∙ ap (λ (a : List LineAnswer). report_text (report_record record_of) ends a true) answers
      ∙ same_report record_of record_of.hits ends (map printed_end ends) (edition.answers ++ (lines_outcome edition.config edition.live).answers) true again.alike in
      let count : length r.opened ≡ length stand.captures = same_count files.left r.opened stand.captures stand.same in
      record {
        report = text_of edition record_of (map printed_end ends);
        is = record {
          script = script.bytes;
          behind = script.behind;
          script_stands = script.stands;
          script_short = subst (λ (l : List ℕ). length l ≤ 1048576) bytes short;
          edition = edition;
          first = ap (first_edition (pace_of Serial)) (sym bytes) ∙ edition_too names.mode r.bytes edition r.replay.first;
          captures = stand.captures;
          captures_stand = stand.under;
          printed = record {
            record_of = record_of;
            ends = map printed_end ends;
            rests = again.rests;
            has = record {
              tracks = again.told;
              read = subst (λ (n : ℕ). AllRead known_left no_failures (limit_for n) stand.captures again.rests again.told (map printed_end ends)) count again.read;
              whole = again.whole;
              legal = subst (λ (inputs : List (List Input)). IsLegal edition.config (lines_outcome edition.config edition.live).accepted inputs record_of) (sym again.inputs) beside.replay.legal;
            };
            uncached = beside.replay.hits ∙ ap (λ (c : Option ℕ). recorded_hits c (map track_inputs beside.replay.tracks) record_of) cache;
            text = refl;
          };
        };
        took = subst (λ (t : List ℕ). Appends (output.written sink) (output.written sinkAfter) t) text appended;
      }

  -- whatever is kept of a replay is printed so
  pub runs_take_reports : RunsTakeReports output files
  runs_take_reports names library libraryAfter sink sinkAfter outcome kept told journal cache lists low r = elim r.writes.answered [
    | inl h ↦ takes_report names library libraryAfter sink sinkAfter outcome kept told journal cache lists r (omega (arith, h.0, low)) h.1
    | inr h ↦ let five = h.0 in absurd (omega arith)
  ]
