-- What the names of a replay come to, with the script before the captures.
use Rattle.std.proofs.Common.{◌∙◌, ℕ, List, length, ap, sym, subst, inr}
use Rattle.capture_tracks.specs.declared.opened.OpenedCapture.{OpenedCapture}
use Rattle.command_words.specs.Words.{CaptureNames}
use Rattle.command_words.specs.declared.invocation.Mode.{Mode}
use Rattle.replay_setup.proofs.Openings.{opens_length}
use Rattle.replay_setup.specs.NamesRead.{ReadsScript, ReadsNames}
use Rattle.replay_setup.specs.Outside.{Files}
use Rattle.replay_setup.specs.Ready.{ComesToOpened, ComesToReady}
use Rattle.replay_setup.specs.declared.ready.Readiness.{Readiness}
use Rattle.replay_setup.specs.declared.ready.Readiness.TheVariants as came

module _ {L S : Type 0} (files : Files L S) where
  -- a script that was read, and what the captures behind it come to
  pub behind_script : (m : Mode) (name : List ℕ) (captures : List CaptureNames) (old between new : L) (script : S) (bytes : List ℕ) (r : Readiness S)
      → ReadsScript files old between name script bytes
      → ComesToOpened files m script bytes captures between new r
      → ComesToReady files m name captures old new r
  behind_script m name captures old between new script bytes (came.Unread refused sources) reads (opened, up, back) = inr (inr (record {
    before = up.before;
    capture = up.capture;
    behind = up.behind;
    stands = up.stands;
    named = up.named;
    between = up.between;
    script = script;
    bytes = bytes;
    opened = opened;
    reads = record { between = between; script_read = reads; captures_opened = up.opens };
    refuses = up.refuses;
    given_back = back;
  }))
  behind_script m name captures old between new script bytes (came.NoEdition error sources) reads (opened, opens, (first, back)) = record {
    script = script;
    bytes = bytes;
    opened = opened;
    reads = record { between = between; script_read = reads; captures_opened = opens };
    first = first;
    given_back = back;
  }
  behind_script m name captures old between new script bytes (came.Ready ready) reads (opened, opens, found) =
      let names : ReadsNames files name captures old new script bytes opened = record { between = between; script_read = reads; captures_opened = opens } in
      record {
        bytes = bytes;
        reads = subst (λ (s : S). ReadsNames files name captures old new s bytes ready.captures.items) (sym found.source)
            (subst (λ (os : List (OpenedCapture S)). ReadsNames files name captures old new script bytes os) (sym found.captures) names);
        first = found.first;
        steps = found.steps;
        all = ap length found.captures ∙ opens_length files between new captures opened opens;
      }
