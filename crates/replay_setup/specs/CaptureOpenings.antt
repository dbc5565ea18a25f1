-- What the openings of captures come to.
use Rattle.std.specs.Prelude.{◌≡◌, ℕ, List, ◌∷◌, ◌++◌}
use Rattle.command_words.specs.Words.{CaptureNames}
use Rattle.replay_setup.specs.Openings.{Opens, RefusesToOpen, OpensAll, port_of}
use Rattle.replay_setup.specs.declared.capture_openings.CaptureOpening.{CaptureOpening}
use Rattle.replay_setup.specs.declared.capture_openings.CaptureOpening.TheVariants as one
use Rattle.replay_setup.specs.declared.capture_openings.CaptureOpenings.{CaptureOpenings}
use Rattle.replay_setup.specs.declared.capture_openings.CaptureOpenings.TheVariants as many
use Rattle.capture_tracks.specs.declared.opened.OpenedCapture.{OpenedCapture}
use Rattle.replay_setup.specs.Outside.{Files}

module _ {L S : Type 0} (files : Files L S) where
  -- the capture was opened, or its name refused
  abbrev pub OpensCapture : L → L → CaptureNames → CaptureOpening S → Type 0
  OpensCapture old new capture (one.Opened opened) = (opened.port ≡ port_of capture) × Opens files old new capture.name opened.source
  OpensCapture old new capture (one.Refused name) = (name ≡ capture.name) × RefusesToOpen files old new name

  -- the captures before this one were opened, and its name was refused
  pub record OpensUpTo (old new : L) (captures : List CaptureNames) (name : List ℕ) (opened : List (OpenedCapture S)) : Type 0 where
    pub before : List CaptureNames
    pub capture : CaptureNames
    pub behind : List CaptureNames
    pub stands : captures ≡ before ++ capture ∷ behind
    pub named : name ≡ capture.name
    pub between : L
    pub opens : OpensAll files old between before opened
    pub refuses : RefusesToOpen files between new name

  -- the captures were opened, or the first of their names that is refused
  abbrev pub OpensCaptures : L → L → List CaptureNames → CaptureOpenings S → Type 0
  OpensCaptures old new captures (many.All opened) = OpensAll files old new captures opened.items
  OpensCaptures old new captures (many.Refused name opened) = OpensUpTo old new captures name opened.items
