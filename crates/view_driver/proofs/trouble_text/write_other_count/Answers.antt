use Rattle.std.proofs.Common.{◌∙◌}
use Rattle.view_driver.specs.TroubleText.{records_text, in_both}
use Rattle.view_driver.proofs.trouble_text.write_other_count.Goals as goal

pub returns : goal.returns
unfolding records_text in_both
returns g c =
    let capture = c.as_bytes-capture.ensures.value ∙ c.format.ensures.text in
    let old = c.as_bytes-old.ensures.value ∙ c.format-2.ensures.text in
    let new = c.as_bytes-new.ensures.value ∙ c.format-3.ensures.text in
    rw (capture, old, new) at c.write_pieces.ensures
