-- What a run finds of a command before a byte is written, and which sources it hands back.
use Rattle.std.specs.Prelude.{◌≡◌, ℕ, ⊤, List, [], ◌∷◌, ◌++◌, codes, Option, Some, None, Ok, Err}
use Rattle.fw_base.specs.declared.port.Direction.TheVariants.{In}
use Rattle.report_texts.specs.declared.ends.Ends.{Ends}
use Rattle.fw_world.specs.RecordValue.{RecordValue}
use Rattle.load_maker.specs.Load.{load_script, load_capture}
use Rattle.command_words.specs.declared.invocation.Mode.{Mode}
use Rattle.command_words.specs.declared.invocation.Mode.TheVariants as modes
use Rattle.fw_command.specs.declared.script.Step.{Step}
use Rattle.rule_chain.specs.Configuration.{Configuration}
use Rattle.capture_tracks.specs.Reading.{Track}
use Rattle.capture_tracks.specs.Replay.{IsReplay}
use Rattle.serial_replay.specs.Replay.{ComesOf}
use Rattle.capture_tracks.specs.declared.opened.OpenedCapture.{OpenedCapture}
use Rattle.capture_tracks.specs.declared.replayed.Replayed.{Replayed}
use Rattle.replay_setup.specs.FirstEdition.{first_edition}
use Rattle.replay_driver.specs.Served.{ReplayNames, Job, Replays, Loads}
use Rattle.replay_setup.specs.FirstEdition.{pace_of}
use Rattle.replay_setup.specs.declared.first_edition.FirstEdition.{FirstEdition}
use Rattle.replay_driver.specs.declared.run_result.RunResult.{RunResult}
use Rattle.replay_driver.specs.declared.run_result.RunResult.TheVariants.{Usage, Unread, Unready, Reported, Summed}
use Rattle.replay_setup.specs.NamesRead.{ReadsNames, IsUnreadable, HasNoEdition}
use Rattle.replay_setup.specs.InMemory.{known_left, no_failures}
use Rattle.replay_setup.specs.Outside.{Files}

-- in serial mode the record comes of going through records and commands in the order of the schedule
abbrev pub IsOrderedIn : Mode → Configuration → List Step → Option ℕ → List Track → RecordValue → Type 0
IsOrderedIn modes.Serial config steps cache tracks kept = ComesOf config steps cache tracks kept
IsOrderedIn modes.Live config steps cache tracks kept = ⊤

module _ {S : Type 0} (left : S → Option (List ℕ)) (failures : S → ℕ) where
  -- Captures were replayed in this mode beside an edition 1 and what a script has behind `live`. Each capture's lane had
  -- a cache for so many verdicts, or none had. The answers are those of the listings before `live` and then those of
  -- the lines behind it.
  pub record IsReplayBeside (m : Mode) (edition : FirstEdition) (cache : Option ℕ) (opened : List (OpenedCapture S)) (kept : RecordValue) (ends : Ends) (sources : List S) : Type 0 where
    pub replayed : Replayed S
    pub replay : IsReplay left failures edition.config edition.live cache opened replayed
    pub ordered : IsOrderedIn m edition.config edition.live cache replay.tracks replayed.record
    pub recorded : kept ≡ replayed.record
    pub captures_ended : ends.captures ≡ replayed.ends.captures
    pub lines_answered : ends.answers ≡ edition.answers ++ replayed.ends.answers
    pub given_back : sources ≡ replayed.sources.items

  -- Captures were replayed in this mode beside a script, which gives an edition 1.
  pub record IsReplayOf (m : Mode) (cache : Option ℕ) (script : List ℕ) (opened : List (OpenedCapture S)) (kept : RecordValue) (ends : Ends) (sources : List S) : Type 0 where
    pub edition : FirstEdition
    pub first : first_edition (pace_of m) script ≡ Ok edition
    pub beside : IsReplayBeside m edition cache opened kept ends sources

module _ {L S : Type 0} (files : Files L S) where
  -- all names were opened, and the captures were replayed beside the script
  pub record ReplaysNames (names : ReplayNames) (old new : L) (kept : RecordValue) (ends : Ends) (sources : List S) : Type 0 where
    pub script : S
    pub bytes : List ℕ
    pub opened : List (OpenedCapture S)
    pub reads : ReadsNames files names.script names.captures old new script bytes opened
    pub captures : List S
    pub replay : IsReplayOf files.left files.failures names.mode names.cache bytes opened kept ends captures
    pub given_back : sources ≡ script ∷ captures

  -- This is found of the words of a replay, and these sources are handed back.
  abbrev pub FindsReplay : ReplayNames → L → L → RunResult → List S → Type 0
  FindsReplay names old new Usage sources = ⊥
  FindsReplay names old new (Unread name) sources = IsUnreadable files names.script names.captures old new name sources
  FindsReplay names old new (Unready error) sources = HasNoEdition files names.mode names.script names.captures old new error sources
  FindsReplay names old new (Reported kept ends journal) sources = (journal ≡ names.journal) × ReplaysNames names old new kept ends sources
  FindsReplay names old new (Summed kept ends) sources = ⊥

-- a made capture of these bytes, taken at `in:em0`
abbrev pub made_capture : List ℕ → OpenedCapture (List ℕ)
made_capture bytes = record {
  port = record { direction = In; interface = codes "em0" };
  source = bytes;
}

-- the made capture of so many records was replayed beside the made script
pub record ReplaysLoad (n : ℕ) (kept : RecordValue) (ends : Ends) : Type 0 where
  pub sources : List (List ℕ)
  pub replay : IsReplayOf known_left no_failures modes.Serial None (load_script n) (made_capture (load_capture n) ∷ []) kept ends sources

-- this is found of a load of so many records
abbrev pub FindsLoad : ℕ → RunResult → Type 0
FindsLoad n Usage = ⊥
FindsLoad n (Unread name) = ⊥
FindsLoad n (Unready error) = first_edition (pace_of modes.Serial) (load_script n) ≡ Err error
FindsLoad n (Reported kept ends journal) = ⊥
FindsLoad n (Summed kept ends) = ReplaysLoad n kept ends

module _ {L S : Type 0} (files : Files L S) where
  -- this is found of a command; a load opens nothing
  abbrev pub FindsJob : Job → L → L → RunResult → List S → Type 0
  FindsJob (Replays names) old new result sources = FindsReplay files names old new result sources
  FindsJob (Loads n) old new result sources = (new ≡ old) × (sources ≡ []) × FindsLoad n result

  -- The words are no command, and nothing is opened; or this is found of the command that they are.
  abbrev pub FindsWords : Option Job → L → L → RunResult → List S → Type 0
  FindsWords None old new result sources = (result ≡ Usage) × (new ≡ old) × (sources ≡ [])
  FindsWords (Some job) old new result sources = FindsJob job old new result sources
