-- Captures whose ends are printed alike have one report, and the same bytes end alike.
use Rattle.std.specs.Bool.{⊤}
use Rattle.std.proofs.Common.{◌≡◌, ℕ, ◌+◌, inl, inr, Bool, true, Option, Some, List, [], ◌∷◌, ◌++◌, length, map, refl, sym, ap, ◌∙◌, subst, arith}
use Rattle.std.proofs.lemmas.Bool.{or_parts}
use Rattle.std.specs.List.{list_any}
use Rattle.eval_engine.specs.Dockets.{DocketValue}
use Rattle.report_texts.proofs.CaptureEnds.{failed_fault}
use Rattle.report_texts.specs.AnswerText.{answers_text}
use Rattle.report_texts.specs.CaptureEnds.{is_failed_read, is_unread}
use Rattle.report_texts.specs.DocketText.{captures_text, record_lines, end_line}
use Rattle.report_texts.specs.Report.{start_text, last_closing, last_edition, report_text}
use Rattle.report_texts.specs.RulesText.{editions_line}
use Rattle.report_texts.specs.declared.capture_end.CaptureEnd.{CaptureEnd}
use Rattle.report_texts.specs.declared.capture_end.CaptureEnd.TheVariants.{Read, Stopped}
use Rattle.report_texts.specs.declared.ends.LineAnswer.{LineAnswer}
use Rattle.fw_world.specs.RecordValue.{RecordValue}
use Rattle.pcap_read.specs.Reading.{Captured, Place, Open, Closed, HasFront, Stops, place_number}
use Rattle.pcap_read.specs.declared.capture_fault.CaptureFault.{CaptureFault}
use Rattle.pcap_read.specs.declared.capture_fault.CaptureFault.TheVariants.{ReadFault}
use Rattle.pcap_read.proofs.OneFront.{front_unique}
use Rattle.capture_tracks.specs.Reading.{Track, IsEnd}
use Rattle.record_laws.specs.SameCaptures.{HaveSameBytes, HaveNoFailedRead, HaveSameFailedReads, printed_end}
use Rattle.record_laws.specs.VerdictLines.{recorded_with}

-- ---- texts

-- the line of a capture's end is written of what is printed of it
end_line_is : (capture : ℕ) (end : CaptureEnd) → end_line capture end ≡ end_line capture (printed_end end)
unfolding end_line
end_line_is capture (Read records) = refl
end_line_is capture (Stopped at fault count) = refl

captures_text_is : (capture : ℕ) (dockets : List DocketValue) (ends : List CaptureEnd) → captures_text capture dockets ends ≡ captures_text capture dockets (map printed_end ends)
unfolding captures_text
captures_text_is capture [] ends = refl
captures_text_is capture (docket ∷ dockets) [] = refl
captures_text_is capture (docket ∷ dockets) (end ∷ ends) =
    ap (λ (text : List ℕ). (record_lines capture 1 docket.entries ++ text) ++ captures_text (capture + 1) dockets ends) (end_line_is capture end)
    ∙ ap (λ (text : List ℕ). (record_lines capture 1 docket.entries ++ end_line capture (printed_end end)) ++ text) (captures_text_is (capture + 1) dockets ends)

-- where ends are printed alike the report is the same
pub same_report : (r : RecordValue) (hits : List ℕ) (ends others : List CaptureEnd) (answers : List LineAnswer) (journal : Bool) → map printed_end ends ≡ map printed_end others
    → report_text (recorded_with hits r) ends answers journal ≡ report_text (recorded_with hits r) others answers journal
unfolding report_text start_text
same_report r hits ends others answers journal same =
    ap (λ (text : List ℕ). (text ++ (answers_text r.editions answers ++ editions_line (length r.editions))) ++ last_closing (recorded_with hits r) journal (last_edition r.editions))
    (captures_text_is 1 r.dockets ends ∙ ap (captures_text 1 r.dockets) same ∙ sym (captures_text_is 1 r.dockets others))

-- ---- ends

-- The capture was read to the place where its records end, and stopped with what stands there or a failing read.
pub record HasEnded (limit : ℕ) (track : Track) (end : CaptureEnd) : Type 0 where
  pub place : Place
  pub front : HasFront limit track.bytes track.records place
  pub stop : Option CaptureFault
  pub stops : Stops ⊤ ⊤ place stop
  pub count : ℕ
  pub told : IsEnd end track.records (place_number track.bytes track.records) stop count

-- each of these captures was
abbrev pub AllEnded : ℕ → List Track → List CaptureEnd → Type 0
AllEnded limit [] [] = ⊤
AllEnded limit (track ∷ tracks) (end ∷ ends) = HasEnded limit track end × AllEnded limit tracks ends
AllEnded limit tracks ends = ⊥

-- a stop by a failing read is told by the end
pub ended_of_stop : (end : CaptureEnd) (records : List Captured) (number : ℕ) (stop : Option CaptureFault) (count : ℕ) → IsEnd end records number stop count → stop ≡ Some ReadFault → is_unread end ≡ true
ended_of_stop (Read n) records number stop count is fails = let first = is.0 in absurd (cc)
ended_of_stop (Stopped at fault c) records number stop count is fails = let first = is.0 in let same : fault ≡ ReadFault = cc in ap is_failed_read same

-- and the end's is one of the stop
stop_of_ended : (end : CaptureEnd) (records : List Captured) (number : ℕ) (stop : Option CaptureFault) (count : ℕ) → IsEnd end records number stop count → is_unread end ≡ true → stop ≡ Some ReadFault
stop_of_ended (Read n) records number stop count is ended = absurd (cc)
stop_of_ended (Stopped at fault c) records number stop count is ended = is.0 ∙ ap (λ (f : CaptureFault). Some f) (failed_fault fault ended)

-- at one place both stop alike, unless only one of them stops by a failing read
same_stop : (place : Place) (stop other : Option CaptureFault) → Stops ⊤ ⊤ place stop → Stops ⊤ ⊤ place other → (stop ≡ Some ReadFault → other ≡ Some ReadFault) → (other ≡ Some ReadFault → stop ≡ Some ReadFault)
    → stop ≡ other
same_stop (Closed fault) stop other a b to from = a ∙ sym b
same_stop (Open place) stop other (inl a) (inl b) to from = a.1 ∙ sym b.1
same_stop (Open place) stop other (inl a) (inr b) to from = from b.1 ∙ sym b.1
same_stop (Open place) stop other (inr a) b to from = a.1 ∙ sym (to a.1)

same_printed : (end other : CaptureEnd) (records : List Captured) (number : ℕ) (stop : Option CaptureFault) (count others : ℕ) → IsEnd end records number stop count → IsEnd other records number stop others
    → printed_end end ≡ printed_end other
same_printed (Read m) (Read n) records number stop count others a b = ap Read (a.1 ∙ sym b.1)
same_printed (Read m) (Stopped at fault c) records number stop count others a b = let first = a.0 in let second = b.0 in absurd (cc)
same_printed (Stopped at fault c) (Read n) records number stop count others a b = let first = a.0 in let second = b.0 in absurd (cc)
same_printed (Stopped at fault c) (Stopped place cause d) records number stop count others a b =
    let first = a.0 in
    let second = b.0 in
    let same : fault ≡ cause = cc in
    let number = a.1 ∙ sym b.1 in
    λ i. Stopped (number i) (same i) 0

-- of the same bytes two captures have the same records, and their ends are printed alike
same_end : (limit : ℕ) (track other : Track) (end otherEnd : CaptureEnd) → HasEnded limit track end → HasEnded limit other otherEnd → track.bytes ≡ other.bytes
    → is_unread end ≡ is_unread otherEnd → printed_end end ≡ printed_end otherEnd
same_end limit track other end otherEnd a b bytes alike =
    let front : HasFront limit track.bytes other.records b.place = subst (λ (l : List ℕ). HasFront limit l other.records b.place) (sym bytes) b.front in
    let one = front_unique limit track.bytes track.records other.records a.place b.place a.front front in
    let stops : Stops ⊤ ⊤ a.place b.stop = subst (λ (p : Place). Stops ⊤ ⊤ p b.stop) (sym one.1) b.stops in
    let stop : a.stop ≡ b.stop = same_stop a.place a.stop b.stop a.stops stops
    (λ fails. stop_of_ended otherEnd other.records (place_number other.bytes other.records) b.stop b.count b.told (sym alike ∙ ended_of_stop end track.records (place_number track.bytes track.records) a.stop a.count a.told fails))
    (λ fails. stop_of_ended end track.records (place_number track.bytes track.records) a.stop a.count a.told (alike ∙ ended_of_stop otherEnd other.records (place_number other.bytes other.records) b.stop b.count b.told fails)) in
    let number : place_number track.bytes track.records ≡ place_number other.bytes other.records = λ i. place_number (bytes i) (one.0 i) in
    let told : IsEnd otherEnd track.records (place_number track.bytes track.records) a.stop b.count =
    subst (λ (l : List Captured). IsEnd otherEnd l (place_number track.bytes track.records) a.stop b.count) (sym one.0)
    (subst (λ (n : ℕ). IsEnd otherEnd other.records n a.stop b.count) (sym number)
    (subst (λ (s : Option CaptureFault). IsEnd otherEnd other.records (place_number other.bytes other.records) s b.count) (sym stop) b.told)) in
    same_printed end otherEnd track.records (place_number track.bytes track.records) a.stop a.count b.count a.told told

-- so it is of all captures
pub same_ends : (limit : ℕ) (tracks others : List Track) (ends otherEnds : List CaptureEnd) → AllEnded limit tracks ends → AllEnded limit others otherEnds → HaveSameBytes tracks others → HaveSameFailedReads ends otherEnds
    → map printed_end ends ≡ map printed_end otherEnds
same_ends limit [] [] [] [] all also same alike = refl
same_ends limit [] [] (end ∷ ends) otherEnds all also same alike = absurd all
same_ends limit [] [] [] (end ∷ otherEnds) all also same alike = absurd also
same_ends limit [] (other ∷ others) ends otherEnds all also same alike = let bytes = same.bytes in absurd (cc)
same_ends limit (track ∷ tracks) [] ends otherEnds all also same alike = let bytes = same.bytes in absurd (cc)
same_ends limit (track ∷ tracks) (other ∷ others) [] otherEnds all also same alike = absurd all
same_ends limit (track ∷ tracks) (other ∷ others) (end ∷ ends) [] all also same alike = absurd also
same_ends limit (track ∷ tracks) (other ∷ others) (end ∷ ends) (otherEnd ∷ otherEnds) all also same alike =
    let all_ports = same.ports in
    let all_bytes = same.bytes in
    let bytes : track.bytes ≡ other.bytes = cc in
    let unread : is_unread end ≡ is_unread otherEnd = cc in
    let behind : map is_unread ends ≡ map is_unread otherEnds = cc in
    let first = same_end limit track other end otherEnd all.0 also.0 bytes unread in
    let rest = same_ends limit tracks others ends otherEnds all.1 also.1 (record { ports = cc; bytes = cc }) behind in
    λ i. first i ∷ rest i

-- where no capture was ended by a failing read the same captures were
pub none_alike : (ends others : List CaptureEnd) → length ends ≡ length others → HaveNoFailedRead ends → HaveNoFailedRead others → HaveSameFailedReads ends others
none_alike [] [] same none also = refl
none_alike [] (other ∷ others) same none also = absurd (omega arith)
none_alike (end ∷ ends) [] same none also = absurd (omega arith)
none_alike (end ∷ ends) (other ∷ others) same none also =
    let (here, behind) = or_parts (is_unread end) (list_any is_unread ends) none in
    let (there, beyond) = or_parts (is_unread other) (list_any is_unread others) also in
    let first : is_unread end ≡ is_unread other = here ∙ sym there in
    let rest = none_alike ends others (omega arith) behind beyond in
    λ i. first i ∷ rest i
