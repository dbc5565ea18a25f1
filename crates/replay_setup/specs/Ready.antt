-- What the names of a replay come to before a capture is read.
use Rattle.std.specs.Prelude.{◌≡◌, ℕ, List, ◌∷◌, length, Ok, Err}
use Rattle.std.specs.List.{AllByRecursion}
use Rattle.command_words.specs.Words.{CaptureNames}
use Rattle.command_words.specs.declared.invocation.Mode.{Mode}
use Rattle.fw_command.specs.WellFormed.{IsStepInRange}
use Rattle.replay_setup.specs.CaptureOpenings.{OpensUpTo}
use Rattle.replay_setup.specs.FirstEdition.{first_edition}
use Rattle.replay_setup.specs.NamesRead.{ReadsNames, IsUnreadable, HasNoEdition}
use Rattle.replay_setup.specs.Openings.{OpensAll}
use Rattle.capture_tracks.specs.Replay.{sources_of}
use Rattle.replay_setup.specs.FirstEdition.{pace_of}
use Rattle.replay_setup.specs.declared.ready.Ready.{Ready}
use Rattle.replay_setup.specs.declared.ready.Readiness.{Readiness}
use Rattle.replay_setup.specs.declared.ready.Readiness.TheVariants as came
use Rattle.capture_tracks.specs.declared.opened.OpenedCapture.{OpenedCapture}
use Rattle.replay_setup.specs.Outside.{Files}

-- this is the edition of a script of these bytes, beside these captures
pub record IsReadyBeside {S : Type 0} (m : Mode) (script : S) (bytes : List ℕ) (opened : List (OpenedCapture S)) (ready : Ready S) : Type 0 where
  pub source : ready.script ≡ script
  pub first : first_edition (pace_of m) bytes ≡ Ok ready.first
  pub steps : AllByRecursion IsStepInRange ready.first.live
  pub captures : ready.captures.items ≡ opened

-- a script of these bytes gives an edition, or why it gives none
abbrev pub FindsEdition : {S : Type 0} → Mode → S → List ℕ → List (OpenedCapture S) → Readiness S → Type 0
FindsEdition m script bytes opened (came.Unread name sources) = ⊥
FindsEdition m script bytes opened (came.NoEdition error sources) = (first_edition (pace_of m) bytes ≡ Err error) × (sources.items ≡ script ∷ sources_of opened)
FindsEdition m script bytes opened (came.Ready ready) = IsReadyBeside m script bytes opened ready

module _ {L S : Type 0} (files : Files L S) where
  -- these captures were opened behind a script of these bytes, which gives this edition, or none; or a name was refused
  abbrev pub ComesToOpened : Mode → S → List ℕ → List CaptureNames → L → L → Readiness S → Type 0
  ComesToOpened m script bytes captures old new (came.Unread name sources) =
      (opened : List (OpenedCapture S)) × OpensUpTo files old new captures name opened × (sources.items ≡ script ∷ sources_of opened)
  ComesToOpened m script bytes captures old new (came.NoEdition error sources) =
      (opened : List (OpenedCapture S)) × OpensAll files old new captures opened × FindsEdition m script bytes opened (came.NoEdition error sources)
  ComesToOpened m script bytes captures old new (came.Ready ready) =
      (opened : List (OpenedCapture S)) × OpensAll files old new captures opened × FindsEdition m script bytes opened (came.Ready ready)

  -- all names were opened, and the script gives this edition
  pub record IsReady (m : Mode) (name : List ℕ) (captures : List CaptureNames) (old new : L) (ready : Ready S) : Type 0 where
    pub bytes : List ℕ
    pub reads : ReadsNames files name captures old new ready.script bytes ready.captures.items
    pub first : first_edition (pace_of m) bytes ≡ Ok ready.first
    pub steps : AllByRecursion IsStepInRange ready.first.live
    pub all : length ready.captures.items ≡ length captures

  -- a name could not be opened or read, the script gives no edition, or all is ready for the replay
  abbrev pub ComesToReady : Mode → List ℕ → List CaptureNames → L → L → Readiness S → Type 0
  ComesToReady m name captures old new (came.Unread refused sources) = IsUnreadable files name captures old new refused sources.items
  ComesToReady m name captures old new (came.NoEdition error sources) = HasNoEdition files m name captures old new error sources.items
  ComesToReady m name captures old new (came.Ready ready) = IsReady m name captures old new ready
