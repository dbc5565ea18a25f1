-- Printed verdict lines are as many as records.
use Rattle.std.proofs.Common.{◌≡◌, ℕ, zero, suc, Option, ◌+◌, ◌/◌, ◌%◌, Bool, true, false, cond, not, ◌&&◌, nat_lt, nat_le, nat_eq, List, [], ◌∷◌, ◌++◌, length, map, codes, filter, sum_by, refl, sym, ap, ◌∙◌, subst, arith, append_assoc, append-nil}
use Rattle.std.proofs.lemmas.Bool.Decides.{nat_tests}
use Rattle.std.proofs.lemmas.List.{length-map}
use Rattle.std.proofs.lemmas.List.Sums.{sum_by-cons}
use Rattle.std.specs.Fmt.{decimal, digits, digits_onto, digit_glyph}
use Rattle.std.specs.List.{onto_first}
use Rattle.counter_book.specs.declared.tally.Count.{Count}
use Rattle.rule_text.specs.Canonical.{five_digits}
use Rattle.pcap_read.specs.Words.{word_of}
use Rattle.pcap_read.specs.declared.capture_fault.CaptureFault.{CaptureFault}
use Rattle.pcap_read.specs.declared.capture_fault.CaptureFault.TheVariants.{ShortHeader, BadMagic, BadVersion, UnknownLink, ShortRecordHeader, RecordTooLong, ShortRecord, TooManyPackets, ReadFault, OutOfMemory}
use Rattle.eval_engine.specs.Dockets.{DocketValue, judgement_of}
use Rattle.eval_engine.specs.declared.docket_entry.DocketEntry.{DocketEntry}
use Rattle.eval_engine.specs.declared.docket_entry.DocketEntry.TheVariants as entry
use Rattle.eval_engine.specs.declared.judgement.Cause.TheVariants.{Rule, Limit, Full}
use Rattle.eval_engine.specs.declared.judgement.Judgement.{Judgement}
use Rattle.fw_command.specs.Lines.{lines_of}
use Rattle.fw_command.proofs.Pieces.{lines_of-cons}
use Rattle.report_texts.specs.AnswerText.{answers_text}
use Rattle.report_texts.specs.DocketText.{verdict_word, verdict_code, cause_word, cause_count, judged_text, entry_text, record_line, record_lines, end_line, captures_text}
use Rattle.report_texts.specs.Lines.{lines_in}
use Rattle.report_texts.specs.Report.{start_text, last_closing, last_edition, report_text}
use Rattle.report_texts.specs.RulesText.{editions_line}
use Rattle.report_texts.specs.declared.capture_end.CaptureEnd.{CaptureEnd}
use Rattle.report_texts.specs.declared.capture_end.CaptureEnd.TheVariants.{Read, Stopped}
use Rattle.report_texts.proofs.SilentWords.{number_is_silent, five_digits_are_silent, verdict_is_silent, verdict_code_is_silent, cause_is_silent, cause_count_is_silent, lines-append}
use Rattle.fw_world.specs.Entries.{EachRecord, IsEntryFor}
use Rattle.fw_world.specs.Inputs.{Input}
use Rattle.fw_world.specs.Lanes.{EachLane, LaneStands}
use Rattle.fw_world.specs.RecordValue.{RecordValue}
use Rattle.capture_tracks.specs.Reading.{track_inputs}
use Rattle.capture_tracks.specs.Commands.{lines_outcome}
use Rattle.capture_tracks.specs.Replay.{limit_for}
use Rattle.record_laws.proofs.ReadCaptures.{track_count, end_count}
use Rattle.record_laws.specs.VerdictLines.{begins_with_digit, verdict_lines, other_lines, input_count, recorded_with, VerdictLinesAreRecords, ReplaysPrintEachRecord}

-- a text that is one line: bytes with no line's end, and one
record IsLine (text : List ℕ) : Type 0 where
  body : List ℕ
  ends : text ≡ body ++ 10 ∷ []
  silent : lines_in body ≡ 0

-- bytes with no line's end before a line make one line with it
before : (front text : List ℕ) → lines_in front ≡ 0 → IsLine text → IsLine (front ++ text)
before front text silent line = record {
  body = front ++ line.body;
  ends = ap (λ rest. front ++ rest) line.ends ∙ sym (append_assoc front line.body (10 ∷ []));
  silent = lines-append front line.body ∙ (let a = silent in let b = line.silent in omega arith);
}

-- bytes with no line's end and one before a text are its first line
silent_line : (body rest : List ℕ) → lines_in body ≡ 0 → lines_of (body ++ 10 ∷ rest) ≡ body ∷ lines_of rest
unfolding lines_in
silent_line [] rest silent = lines_of-cons 10 rest
silent_line (x ∷ body) rest silent =
    lines_of-cons x (body ++ 10 ∷ rest)
    ∙ (elim (nat_eq x 10) as (λ b. cond b (1 + lines_in body) (lines_in body) ≡ 0 → cond b ([] ∷ lines_of (body ++ 10 ∷ rest)) (onto_first x (lines_of (body ++ 10 ∷ rest))) ≡ (x ∷ body) ∷ lines_of rest) [
      | true ↦ λ some. absurd (omega arith)
      | false ↦ λ none. ap (onto_first x) (silent_line body rest none)
    ] silent)

-- a line before a text is its first line
first_line : (text rest : List ℕ) (line : IsLine text) → lines_of (text ++ rest) ≡ line.body ∷ lines_of rest
first_line text rest line =
    ap (λ t. lines_of (t ++ rest)) line.ends
    ∙ ap lines_of (append_assoc line.body (10 ∷ []) rest)
    ∙ silent_line line.body rest line.silent

-- a digit is from 48 to 57
glyph_digit : (d : ℕ) → nat_lt d 10 ≡ true → (nat_le 48 (digit_glyph false d) && nat_le (digit_glyph false d) 57) ≡ true
glyph_digit d small = rw small (both (nat_le 48 (48 + d)) (nat_le (48 + d) 57) (grind (arith, nat_tests)) (grind (arith, nat_tests)))
  where
    both : (a b : Bool) → a ≡ true → b ≡ true → (a && b) ≡ true
    both a b first second = rw (first, second) refl

still_digit : (text rest : List ℕ) → begins_with_digit text ≡ true → begins_with_digit (text ++ rest) ≡ true
still_digit [] rest is = cc
still_digit (x ∷ text) rest is = is

onto_digit : (k n : ℕ) (acc : List ℕ) → begins_with_digit (digits_onto (suc k) 10 false n acc) ≡ true
onto_digit zero n acc =
    let first : begins_with_digit (digit_glyph false (n % 10) ∷ acc) ≡ true = glyph_digit (n % 10) (grind (arith, nat_tests)) in
    elim (nat_eq (n / 10) 0) as (λ b. begins_with_digit (cond b (digit_glyph false (n % 10) ∷ acc) (digit_glyph false (n % 10) ∷ acc)) ≡ true) [ true ↦ first | false ↦ first ]
onto_digit (suc k) n acc =
    let first : begins_with_digit (digit_glyph false (n % 10) ∷ acc) ≡ true = glyph_digit (n % 10) (grind (arith, nat_tests)) in
    elim (nat_eq (n / 10) 0) as (λ b. begins_with_digit (cond b (digit_glyph false (n % 10) ∷ acc) (digits_onto (suc k) 10 false (n / 10) (digit_glyph false (n % 10) ∷ acc))) ≡ true) [
      | true ↦ first
      | false ↦ onto_digit k (n / 10) (digit_glyph false (n % 10) ∷ acc)
    ]

number_digit : (n : ℕ) (rest : List ℕ) → begins_with_digit (decimal n ++ rest) ≡ true
unfolding digits
number_digit n rest = still_digit (decimal n) rest (onto_digit 63 n [])

-- a line's end alone
ended : IsLine (codes "\n")
unfolding lines_in
ended = record { body = []; ends = refl; silent = refl }

judged_line : (j : Judgement) → IsLine (judged_text j)
unfolding judged_text lines_in
judged_line j =
    before (codes " ") _ refl (before (verdict_word j.verdict) _ (verdict_is_silent j.verdict) (before (verdict_code j.verdict) _ (verdict_code_is_silent j.verdict)
    (before (codes " ") _ refl (before (five_digits j.rule.number) _ (five_digits_are_silent j.rule.number) (before (codes " at ") _ refl (before (decimal j.edition) _ (number_is_silent j.edition)
    (before (cause_word j.cause) _ (cause_is_silent j.cause) (before (cause_count j.cause) _ (cause_count_is_silent j.cause) ended))))))))

entry_line : (entry : DocketEntry) → IsLine (entry_text entry)
unfolding entry_text lines_in
entry_line entry.Other = record { body = codes " other"; ends = refl; silent = refl }
entry_line (entry.Malformed kind) = before (codes " malformed ") _ refl (before (decimal kind) _ (number_is_silent kind) ended)
entry_line (entry.Judged verdict rule edition) = judged_line (judgement_of verdict Rule rule edition)
entry_line (entry.Limited verdict rule states edition) = judged_line (judgement_of verdict (Limit states) rule edition)
entry_line (entry.Full verdict rule states edition) = judged_line (judgement_of verdict (Full states) rule edition)

-- A line of a record begins with a digit.
record IsVerdictLine (text : List ℕ) : Type 0 where
  line : IsLine text
  digit : begins_with_digit line.body ≡ true

record_is_line : (capture at : ℕ) (entry : DocketEntry) → IsVerdictLine (record_line capture at entry)
unfolding record_line lines_in before
record_is_line capture at entry =
    let behind = before (codes ".") _ refl (before (decimal at) _ (number_is_silent at) (entry_line entry)) in
    record { line = before (decimal capture) _ (number_is_silent capture) behind; digit = number_digit capture behind.body }

-- A line of a capture's end doesn't.
record IsEndLine (text : List ℕ) : Type 0 where
  line : IsLine text
  word : begins_with_digit line.body ≡ false

fault_word : (fault : CaptureFault) → lines_in (word_of fault) ≡ 0
unfolding lines_in
fault_word ShortHeader = refl
fault_word BadMagic = refl
fault_word BadVersion = refl
fault_word UnknownLink = refl
fault_word ShortRecordHeader = refl
fault_word RecordTooLong = refl
fault_word ShortRecord = refl
fault_word TooManyPackets = refl
fault_word ReadFault = refl
fault_word OutOfMemory = refl

end_is_line : (capture : ℕ) (end : CaptureEnd) → IsEndLine (end_line capture end)
unfolding end_line lines_in before
end_is_line capture (Read records) =
    let behind = before (decimal capture) _ (number_is_silent capture) (before (codes " records ") _ refl (before (decimal records) _ (number_is_silent records) ended)) in
    record { line = before (codes "end ") _ refl behind; word = refl }
end_is_line capture (Stopped at fault count) =
    let behind = before (decimal capture) _ (number_is_silent capture) (before (codes " record ") _ refl (before (decimal at) _ (number_is_silent at) (before (codes " ") _ refl (before (word_of fault) _ (fault_word fault) ended)))) in
    record { line = before (codes "fault ") _ refl behind; word = refl }

-- how many lines of a text begin with a digit, and how many don't
abbrev verdicts : List ℕ → ℕ
verdicts text = length (verdict_lines text)

abbrev others : List ℕ → ℕ
others text = length (other_lines text)

-- so many lines of either kind before the rest
record HasLines (text : List ℕ) (records ends : ℕ) : Type 0 where
  verdict_count : (rest : List ℕ) → verdicts (text ++ rest) ≡ records + verdicts rest
  other_count : (rest : List ℕ) → others (text ++ rest) ≡ ends + others rest

counts_none : HasLines [] 0 0
counts_none = record { verdict_count = λ rest. omega arith; other_count = λ rest. omega arith }

counts_both : (a b : List ℕ) (m n k l : ℕ) → HasLines a m k → HasLines b n l → HasLines (a ++ b) (m + n) (k + l)
counts_both a b m n k l first second = record {
  verdict_count = λ rest. ap verdicts (append_assoc a b rest) ∙ first.verdict_count (b ++ rest) ∙ ap (λ c. m + c) (second.verdict_count rest) ∙ omega arith;
  other_count = λ rest. ap others (append_assoc a b rest) ∙ first.other_count (b ++ rest) ∙ ap (λ c. k + c) (second.other_count rest) ∙ omega arith;
}

-- the lines of a kind behind one line more
abbrev with_line : (List ℕ → Bool) → List ℕ → List (List ℕ) → ℕ
with_line is line lines = length (filter is (line ∷ lines))

with_verdict : (line : List ℕ) (lines : List (List ℕ)) → begins_with_digit line ≡ true → with_line begins_with_digit line lines ≡ 1 + length (filter begins_with_digit lines)
with_verdict line lines digit = rw digit (omega arith)

with_no_verdict : (line : List ℕ) (lines : List (List ℕ)) → begins_with_digit line ≡ false → with_line begins_with_digit line lines ≡ 0 + length (filter begins_with_digit lines)
with_no_verdict line lines word = rw word (omega arith)

with_no_other : (line : List ℕ) (lines : List (List ℕ)) → begins_with_digit line ≡ true → with_line (λ l. not (begins_with_digit l)) line lines ≡ 0 + length (filter (λ l. not (begins_with_digit l)) lines)
with_no_other line lines digit = rw digit (omega arith)

with_other : (line : List ℕ) (lines : List (List ℕ)) → begins_with_digit line ≡ false → with_line (λ l. not (begins_with_digit l)) line lines ≡ 1 + length (filter (λ l. not (begins_with_digit l)) lines)
with_other line lines word = rw word (omega arith)

counts_verdict : (text : List ℕ) → IsVerdictLine text → HasLines text 1 0
counts_verdict text is = record {
  verdict_count = λ rest. ap (λ lines. length (filter begins_with_digit lines)) (first_line text rest is.line) ∙ with_verdict is.line.body (lines_of rest) is.digit;
  other_count = λ rest. ap (λ lines. length (filter (λ l. not (begins_with_digit l)) lines)) (first_line text rest is.line) ∙ with_no_other is.line.body (lines_of rest) is.digit;
}

counts_end : (text : List ℕ) → IsEndLine text → HasLines text 0 1
counts_end text is = record {
  verdict_count = λ rest. ap (λ lines. length (filter begins_with_digit lines)) (first_line text rest is.line) ∙ with_no_verdict is.line.body (lines_of rest) is.word;
  other_count = λ rest. ap (λ lines. length (filter (λ l. not (begins_with_digit l)) lines)) (first_line text rest is.line) ∙ with_other is.line.body (lines_of rest) is.word;
}

counts_as : (text : List ℕ) (m n k l : ℕ) → m ≡ n → k ≡ l → HasLines text m k → HasLines text n l
counts_as text m n k l same alike counts = subst (λ i. HasLines text i l) same (subst (λ i. HasLines text m i) alike counts)

counts_records : (capture at : ℕ) (entries : List DocketEntry) → HasLines (record_lines capture at entries) (length entries) 0
counts_records capture at [] = counts_none
counts_records capture at (entry ∷ entries) =
    counts_as _ _ _ _ _ (omega arith) (omega arith)
    (counts_both (record_line capture at entry) (record_lines capture (at + 1) entries) 1 (length entries) 0 0 (counts_verdict _ (record_is_line capture at entry)) (counts_records capture (at + 1) entries))

-- how many entries the dockets have
abbrev entries_in : List DocketValue → ℕ
entries_in dockets = sum_by (λ docket. length docket.entries) dockets

counts_captures : (capture : ℕ) (dockets : List DocketValue) (ends : List CaptureEnd) → length ends ≡ length dockets → HasLines (captures_text capture dockets ends) (entries_in dockets) (length dockets)
unfolding captures_text
counts_captures capture [] ends same = counts_none
counts_captures capture (docket ∷ dockets) [] same = absurd (omega arith)
counts_captures capture (docket ∷ dockets) (end ∷ ends) same =
    let sum = sum_by-cons (λ (d : DocketValue). length d.entries) docket dockets in
    counts_as _ _ _ _ _ (omega arith) (omega arith)
    (counts_both (record_lines capture 1 docket.entries ++ end_line capture end) (captures_text (capture + 1) dockets ends) (length docket.entries + 0) (entries_in dockets) (0 + 1) (length dockets)
    (counts_both (record_lines capture 1 docket.entries) (end_line capture end) (length docket.entries) 0 0 1 (counts_records capture 1 docket.entries) (counts_end _ (end_is_line capture end)))
    (counts_captures (capture + 1) dockets ends (omega arith)))

-- a docket has an entry for each input
entry_count : (at : ℕ) (inputs : List Input) (entries : List DocketEntry) → EachRecord IsEntryFor at inputs entries → length entries ≡ length inputs
entry_count at [] [] each = refl
entry_count at [] (entry ∷ entries) each = absurd each
entry_count at (input ∷ inputs) [] each = absurd each
entry_count at (input ∷ inputs) (entry ∷ entries) each = ap (λ n. suc n) (entry_count (at + 1) inputs entries each.1)

-- there is a docket for each capture, and the dockets have an entry for each record
record AreCounted (inputs : List (List Input)) (dockets : List DocketValue) : Type 0 where
  docket_count : length dockets ≡ length inputs
  record_count : entries_in dockets ≡ input_count inputs

counted : (r : RecordValue) (lane : ℕ) (inputs : List (List Input)) (dockets : List DocketValue) (tallies : List (List Count)) (trackers : List ℕ) → EachLane (LaneStands r) lane inputs dockets tallies trackers → AreCounted inputs dockets
counted r lane [] [] [] [] each = record { docket_count = refl; record_count = refl }
counted r lane (own ∷ inputs) (docket ∷ dockets) (tally ∷ tallies) (tracker ∷ trackers) each =
    let rest = counted r (lane + 1) inputs dockets tallies trackers each.1 in
    record {
      docket_count = ap (λ n. suc n) rest.docket_count;
      record_count =
          sum_by-cons (λ (d : DocketValue). length d.entries) docket dockets
          ∙ ap (λ n. n + entries_in dockets) (entry_count 1 own docket.entries each.0.entered)
          ∙ ap (λ n. length own + n) rest.record_count
          ∙ sym (sum_by-cons (λ (l : List Input). length l) own inputs);
    }
counted r lane inputs dockets tallies trackers each = absurd each

-- the lines of a text with nothing behind it
alone : (text : List ℕ) (records ends : ℕ) → HasLines text records ends → (verdicts text ≡ records) × (others text ≡ ends)
unfolding lines_of
alone text records ends counts =
    let none : records + verdicts [] ≡ records = omega arith in
    let nothing : ends + others [] ≡ ends = omega arith in
    (ap verdicts (sym (append-nil text)) ∙ counts.verdict_count [] ∙ none, ap others (sym (append-nil text)) ∙ counts.other_count [] ∙ nothing)

-- the report of a legal record has as many verdict lines as there are records
pub verdict_lines_are_records : VerdictLinesAreRecords
unfolding report_text start_text
verdict_lines_are_records first commands inputs r hits ends answers journal legal as_many =
    let many = counted r 1 inputs r.dockets r.tallies r.trackers legal.lanes in
    let counts = alone (captures_text 1 r.dockets ends) (entries_in r.dockets) (length r.dockets) (counts_captures 1 r.dockets ends (as_many ∙ sym many.docket_count)) in
    let said = answers_text r.editions answers ++ editions_line (length r.editions) in
    record {
      behind = said ++ last_closing (recorded_with hits r) journal (last_edition r.editions);
      begins = append_assoc (captures_text 1 r.dockets ends) said (last_closing (recorded_with hits r) journal (last_edition r.editions));
      verdicts = counts.0 ∙ many.record_count;
      ends = counts.1 ∙ many.docket_count;
    }

module _ {S : Type 0} (left : S → Option (List ℕ)) (faults : S → ℕ) where
  -- the report of a replay has a verdict line for each record that was read
  pub replays_print_each_record : ReplaysPrintEachRecord left faults
  replays_print_each_record config steps cache captures r hits answers journal replay =
      verdict_lines_are_records config (lines_outcome config steps).accepted (map track_inputs replay.tracks) r.record hits r.ends.captures answers journal replay.legal
      (sym (end_count left faults (limit_for (length captures)) captures r.sources.items replay.tracks r.ends.captures replay.read)
      ∙ track_count left faults (limit_for (length captures)) captures r.sources.items replay.tracks r.ends.captures replay.read ∙ sym (length-map replay.tracks track_inputs))
