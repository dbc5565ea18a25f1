use Rattle.std.proofs.Common.{◌∙◌}
use Rattle.view_driver.specs.TroubleText.{other_records_text}
use Rattle.view_driver.proofs.trouble_text.write_other_records.Goals as goal

pub returns : goal.returns
unfolding other_records_text
returns g c =
    let told = c.as_bytes-told.ensures.value ∙ c.format.ensures.text in
    let read = c.as_bytes-read.ensures.value ∙ c.format-2.ensures.text in
    rw (told, read) at c.write_pieces.ensures
