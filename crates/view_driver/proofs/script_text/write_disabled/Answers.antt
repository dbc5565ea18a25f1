use Rattle.std.proofs.Common.{◌∙◌}
use Rattle.view_driver.specs.ReviewText.{disabled_text}
use Rattle.view_driver.proofs.script_text.write_disabled.Goals as goal

pub returns : goal.returns
unfolding disabled_text
returns g c =
    let set = c.as_bytes-set.ensures.value ∙ c.format.ensures.text in
    let rules = c.as_bytes-rules.ensures.value ∙ c.format-2.ensures.text in
    rw (set, rules) at c.write_pieces.ensures
