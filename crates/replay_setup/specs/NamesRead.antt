-- What the names of a script and of captures come to, opened and read in their order.
use Rattle.std.specs.Prelude.{◌≡◌, ℕ, ◌<◌, List, [], ◌∷◌, ◌++◌, length, Option, Err, ◌⊎◌}
use Rattle.std.specs.Io.KnownBytes.{Consumes}
use Rattle.buffered_io.specs.WholeSource.{ReadsAll}
use Rattle.capture_tracks.specs.declared.opened.OpenedCapture.{OpenedCapture}
use Rattle.command_words.specs.Words.{CaptureNames}
use Rattle.command_words.specs.declared.invocation.Mode.{Mode}
use Rattle.fw_base.specs.Faults.{Rose}
use Rattle.replay_setup.specs.FirstEdition.{first_edition, pace_of}
use Rattle.replay_setup.specs.Openings.{Opens, RefusesToOpen, OpensAll}
use Rattle.capture_tracks.specs.Replay.{sources_of}
use Rattle.replay_setup.specs.Outside.{Files}
use Rattle.replay_setup.specs.declared.script_error.ScriptError.{ScriptError}

module _ {S : Type 0} (left : S → Option (List ℕ)) (failures : S → ℕ) where
  -- A source failed with fewer than so many of its bytes taken.
  pub record FailsEarly (limit : ℕ) (opened now : S) : Type 0 where
    pub rose : Rose (failures opened) (failures now)
    pub taken : List ℕ
    pub took : Consumes (left opened) (left now) taken
    pub few : length taken < limit

module _ {L S : Type 0} (files : Files L S) where
  -- the file of this name was opened and read to its end, or to its byte of this number, and none of its reads failed
  pub record ReadsNamed (limit : ℕ) (old new : L) (name : List ℕ) (source : S) (bytes : List ℕ) : Type 0 where
    pub opened : S
    pub opens : Opens files old new name opened
    pub reads : ReadsAll (files.left opened) (files.left source) (files.failures opened) (files.failures source) limit bytes

  -- the script was opened and read to its end, or to its 1,048,577th byte, and none of its reads failed
  abbrev pub ReadsScript : L → L → List ℕ → S → List ℕ → Type 0
  ReadsScript = ReadsNamed 1048577

  -- the script was opened and read, and then these captures were opened, in the order of the words
  pub record ReadsNames (name : List ℕ) (captures : List CaptureNames) (old new : L) (script : S) (bytes : List ℕ) (opened : List (OpenedCapture S)) : Type 0 where
    pub between : L
    pub script_read : ReadsScript old between name script bytes
    pub captures_opened : OpensAll files between new captures opened

  -- the script's name was refused
  pub record RefusesScript (wanted : List ℕ) (old new : L) (name : List ℕ) (sources : List S) : Type 0 where
    pub named : name ≡ wanted
    pub refuses : RefusesToOpen files old new name
    pub nothing_opened : sources ≡ []

  -- the script was opened, and its source failed with at most 1,048,576 of its bytes taken
  pub record FailsScript (wanted : List ℕ) (old new : L) (name : List ℕ) (sources : List S) : Type 0 where
    pub named : name ≡ wanted
    pub opened : S
    pub opens : Opens files old new name opened
    pub script : S
    pub fails : FailsEarly files.left files.failures 1048577 opened script
    pub given_back : sources ≡ script ∷ []

  -- the script was read, the captures before this one were opened, and its name was refused
  pub record RefusesCapture (wanted : List ℕ) (captures : List CaptureNames) (old new : L) (name : List ℕ) (sources : List S) : Type 0 where
    pub before : List CaptureNames
    pub capture : CaptureNames
    pub behind : List CaptureNames
    pub stands : captures ≡ before ++ capture ∷ behind
    pub named : name ≡ capture.name
    pub between : L
    pub script : S
    pub bytes : List ℕ
    pub opened : List (OpenedCapture S)
    pub reads : ReadsNames wanted before old between script bytes opened
    pub refuses : RefusesToOpen files between new name
    pub given_back : sources ≡ script ∷ sources_of opened

  -- the script's name or a capture's could not be opened, or the script not read
  abbrev pub IsUnreadable : List ℕ → List CaptureNames → L → L → List ℕ → List S → Type 0
  IsUnreadable wanted captures old new name sources =
      RefusesScript wanted old new name sources ⊎ (FailsScript wanted old new name sources ⊎ RefusesCapture wanted captures old new name sources)

  -- all names were opened, and the script gives no edition in this mode
  pub record HasNoEdition (m : Mode) (name : List ℕ) (captures : List CaptureNames) (old new : L) (error : ScriptError) (sources : List S) : Type 0 where
    pub script : S
    pub bytes : List ℕ
    pub opened : List (OpenedCapture S)
    pub reads : ReadsNames name captures old new script bytes opened
    pub first : first_edition (pace_of m) bytes ≡ Err error
    pub given_back : sources ≡ script ∷ sources_of opened
