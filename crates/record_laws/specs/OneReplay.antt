-- What a run leaves is a function of its first configuration, its script and its captures.
use Rattle.std.specs.Prelude.{◌≡◌, ℕ, Bool, Option, List, map}
use Rattle.counter_book.specs.Counts as counts
use Rattle.counter_book.specs.declared.tally.Count.{Count}
use Rattle.fw_command.specs.declared.script.Step.{Step}
use Rattle.report_texts.specs.Report.{report_text}
use Rattle.report_texts.specs.declared.capture_end.CaptureEnd.{CaptureEnd}
use Rattle.report_texts.specs.declared.ends.LineAnswer.{LineAnswer}
use Rattle.fw_world.specs.Publications.{IsLawful}
use Rattle.fw_world.specs.RecordValue.{RecordValue}
use Rattle.fw_world.specs.RecordedHits.{TellsHits}
use Rattle.rule_chain.specs.Configuration.{Configuration}
use Rattle.capture_tracks.specs.Reading.{Track, track_inputs}
use Rattle.serial_replay.specs.Replay.{ComesOf, IsSerialReplay}
use Rattle.capture_tracks.specs.declared.opened.OpenedCapture.{OpenedCapture}
use Rattle.capture_tracks.specs.declared.replayed.Replayed.{Replayed}
use Rattle.record_laws.specs.SameCaptures.{HaveSameRecords, HaveSameBytes, HaveSameContents, HaveNoFailedRead, HaveSameFailedReads, printed_end}
use Rattle.record_laws.specs.VerdictLines.{recorded_with}

-- what each lane counted under a counter number
abbrev pub lane_counts : ℕ → RecordValue → List Count
lane_counts counter r = map (λ tally. counts.counted_under tally counter) r.tallies

-- Both records say the same. They may differ only in how many zero counts their tallies have room for.
pub record IsSameRecord (r s : RecordValue) : Type 0 where
  -- the editions, the entries of the journal, and the states that it leaves
  pub editions : r.editions ≡ s.editions
  pub journal : r.journal ≡ s.journal
  -- for each lane its entries, its tracker word, and what it counted, and so what all lanes counted
  pub dockets : r.dockets ≡ s.dockets
  pub trackers : r.trackers ≡ s.trackers
  -- the hits of its cache, where each lane has one
  pub hits : r.hits ≡ s.hits
  pub counted : (counter : ℕ) → lane_counts counter r ≡ lane_counts counter s
  pub totals : (counter : ℕ) → counts.total_under r.tallies counter ≡ counts.total_under s.tallies counter
  -- the text that is printed
  pub report : (hits : List ℕ) (ends : List CaptureEnd) (answers : List LineAnswer) (journal : Bool)
      → report_text (recorded_with hits r) ends answers journal ≡ report_text (recorded_with hits s) ends answers journal

-- At most one record comes of a first configuration, a script and the records of captures in the order of the
-- schedule, with a journal in which each reply is the one state object's, and with the hits of caches for so many
-- verdicts or of none.
abbrev pub RecordsAreDetermined : Type 0
RecordsAreDetermined = (config : Configuration) (steps : List Step) (cache : Option ℕ) (tracks others : List Track) (r s : RecordValue) → HaveSameRecords tracks others
    → ComesOf config steps cache tracks r → IsLawful r.editions r.journal.entries → TellsHits cache (map track_inputs tracks) r
    → ComesOf config steps cache others s → IsLawful s.editions s.journal.entries → TellsHits cache (map track_inputs others) s
    → IsSameRecord r s

-- the records of both replays say the same, and the lines of the script have the same answers
pub record IsSameReplay {S T : Type 0} (r : Replayed S) (s : Replayed T) : Type 0 where
  pub recorded : IsSameRecord r.record s.record
  pub answers : r.ends.answers ≡ s.ends.answers

-- Both replays have one report: their captures' ends are printed alike, and so is the whole text, with whatever
-- answers to lines of the script.
pub record IsSameReport {S T : Type 0} (r : Replayed S) (s : Replayed T) : Type 0 where
  pub ends : map printed_end r.ends.captures ≡ map printed_end s.ends.captures
  pub text : (hits : List ℕ) (answers : List LineAnswer) (journal : Bool)
      → report_text (recorded_with hits r.record) r.ends.captures answers journal ≡ report_text (recorded_with hits s.record) s.ends.captures answers journal

module _ {S T : Type 0} (left : S → Option (List ℕ)) (faults : S → ℕ) (otherLeft : T → Option (List ℕ)) (otherFaults : T → ℕ) where
  -- Two replays in the order of the schedule, of one first configuration and one script, that read the same bytes
  -- of captures which were taken at the same ports, leave the same record and answers, whatever the sources are. Where the same captures were
  -- ended by a failing read, they have one report.
  abbrev pub ReplaysAreDetermined : Type 0
  ReplaysAreDetermined = (config : Configuration) (steps : List Step) (cache : Option ℕ) (captures : List (OpenedCapture S)) (others : List (OpenedCapture T)) (r : Replayed S) (s : Replayed T)
      → (replay : IsSerialReplay left faults config steps cache captures r) → (other : IsSerialReplay otherLeft otherFaults config steps cache others s)
      → HaveSameBytes replay.replay.tracks other.replay.tracks → IsSameReplay r s × (HaveSameFailedReads r.ends.captures s.ends.captures → IsSameReport r s)

  -- Two replays in the order of the schedule, of one first configuration and one script, over captures which were taken at the same ports and
  -- whose sources tell the same bytes, none of which was ended by a failing read, leave the same record and
  -- answers, and have one report.
  abbrev pub ContentsDetermineReports : Type 0
  ContentsDetermineReports = (config : Configuration) (steps : List Step) (cache : Option ℕ) (captures : List (OpenedCapture S)) (others : List (OpenedCapture T)) (r : Replayed S) (s : Replayed T)
      → IsSerialReplay left faults config steps cache captures r → IsSerialReplay otherLeft otherFaults config steps cache others s
      → HaveSameContents left otherLeft captures others → HaveNoFailedRead r.ends.captures → HaveNoFailedRead s.ends.captures
      → IsSameReplay r s × IsSameReport r s
