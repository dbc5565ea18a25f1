-- Openings of the names of a command, one after the other.
use Rattle.std.specs.Prelude.{◌≡◌, ℕ, List, [], ◌∷◌, map, Option, Some, option_and_then}
use Rattle.fw_base.specs.Faults.{Rose}
use Rattle.fw_base.specs.Pairs.{Pair, TakesOut, take_named}
use Rattle.fw_base.specs.declared.port.Port.{Port}
use Rattle.command_words.specs.Words.{CaptureNames}
use Rattle.capture_tracks.specs.declared.opened.OpenedCapture.{OpenedCapture}
use Rattle.replay_setup.specs.Outside.{Files}

-- where a capture was taken
abbrev pub port_of : CaptureNames → Port
port_of capture = record { direction = capture.direction; interface = capture.interface }

-- the captures' names
abbrev pub file_names : List CaptureNames → List (List ℕ)
file_names = map (λ capture. capture.name)

-- the told list without the first pair of each of these names in turn
abbrev pub pairs_without : List (List ℕ) → List Pair → Option (List Pair)
pairs_without [] pairs = Some pairs
pairs_without (name ∷ names) pairs = option_and_then (λ found. pairs_without names found.1) (take_named name pairs)

module _ {L S : Type 0} (files : Files L S) where
  -- A name was refused: it is the last one refused, the library's count rose, and its list is as before.
  pub record RefusesToOpen (old new : L) (name : List ℕ) : Type 0 where
    pub name_kept : files.refused new ≡ Some name
    pub rose : Rose (files.faults old) (files.faults new)
    pub list_kept : files.pairs new ≡ files.pairs old

module _ {L S : Type 0} (files : Files L S) where
  -- A name was opened: its reader has the bytes that the library told, and no read of it failed. The library's
  -- count and its last refused name stay.
  pub record Opens (old new : L) (name : List ℕ) (reader : S) : Type 0 where
    pub took : TakesOut (files.pairs old) (files.pairs new) name (files.left reader)
    pub fresh : files.failures reader ≡ 0
    pub steady : files.faults new ≡ files.faults old
    pub no_refusal : files.refused new ≡ files.refused old

  -- these captures were opened in their order
  abbrev pub OpensAll : L → L → List CaptureNames → List (OpenedCapture S) → Type 0
  OpensAll old new [] [] = new ≡ old
  OpensAll old new [] (opened ∷ others) = ⊥
  OpensAll old new (capture ∷ captures) [] = ⊥
  OpensAll old new (capture ∷ captures) (opened ∷ others) =
      (opened.port ≡ port_of capture) × (between : L) × Opens old between capture.name opened.source × OpensAll between new captures others
