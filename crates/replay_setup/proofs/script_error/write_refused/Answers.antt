use Rattle.std.proofs.Common.{◌∙◌}
use Rattle.replay_setup.specs.ScriptTexts.{refused_text}
use Rattle.replay_setup.proofs.script_error.write_refused.Goals as goal

pub returns : goal.returns
unfolding refused_text
returns g c =
    let line = c.as_bytes-line.ensures.value ∙ c.format.ensures.text in
    let fault = c.as_bytes-fault.ensures.value ∙ c.word.ensures in
    rw (← line, ← fault) c.write_pieces.ensures
