-- What a run leaves: its status, and what the sink took.
use Rattle.std.specs.Prelude.{◌≡◌, ℕ, List, [], None, ◌⊎◌}
use Rattle.std.specs.Io.KnownBytes.{Appends}
use Rattle.fw_base.specs.Faults.{Rose}
use Rattle.fw_base.specs.Texts.{AppendsPart}
use Rattle.replay_setup.specs.Outside.{Output}
use Rattle.replay_setup.specs.declared.outcome.Outcome.{Outcome}

-- Memory ran out, and nothing was written.
pub record IsWithoutMemory {K S : Type 0} (sink sinkAfter : K) (outcome : Outcome S) : Type 0 where
  pub status : outcome.status ≡ 6
  pub nothing_written : sinkAfter ≡ sink
  pub nothing_handed_back : outcome.sources.items ≡ []
  pub nothing_kept : outcome.kept ≡ None
  pub no_end : outcome.ends.captures ≡ []
  pub no_answer : outcome.ends.answers ≡ []

module _ {K : Type 0} (output : Output K) where
  -- A text was to be written with a status. With another status than 5 the sink took the whole text; with 5,
  -- which replaces it, a front of the text, and the sink's count rose.
  pub record Writes (sink sinkAfter : K) (wanted got : ℕ) (text : List ℕ) : Type 0 where
    pub answered : ((got ≡ wanted) × Appends (output.written sink) (output.written sinkAfter) text)
        ⊎ ((got ≡ 5) × AppendsPart (output.written sink) (output.written sinkAfter) text × Rose (output.faults sink) (output.faults sinkAfter))
