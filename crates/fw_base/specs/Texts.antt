-- What a call that writes a text leaves in a sink.
use Rattle.std.specs.Prelude.{◌≡◌, ℕ, List, ◌++◌, Option, Result, OnOk, OnErr}
use Rattle.std.specs.Io.KnownBytes.{Appends}
use Rattle.fw_base.specs.Faults.{HasCause}

-- a sink, as contracts see it: the bytes that were written, where it tells them; the texts that it was made with,
-- which no write changes; and how many of its calls failed
pub record SinkState : Type 0 where
  pub written : Option (List ℕ)
  pub made_with : List (List ℕ)
  pub faults : ℕ

-- the known bytes grow by a front of the text
abbrev pub AppendsPart : Option (List ℕ) → Option (List ℕ) → List ℕ → Type 0
AppendsPart old new text = (front : List ℕ) × (rest : List ℕ) × (text ≡ front ++ rest) × Appends old new front

-- the whole text was appended; or, where the call failed, a front of it, and the sink's count rose
pub record WritesText {T E : Type 0} (old new : SinkState) (text : List ℕ) (result : Result T E) : Type 0 where
  pub whole : OnOk result (Appends old.written new.written text)
  pub part : OnErr result (AppendsPart old.written new.written text)
  pub made : new.made_with ≡ old.made_with
  pub cause : HasCause old.faults new.faults result
