use Rattle.std.proofs.Common.{◌∙◌}
use Rattle.view_driver.specs.ReviewText.{beaten_words}
use Rattle.view_driver.proofs.script_text.write_beaten.Goals as goal

pub returns : goal.returns
unfolding beaten_words
returns g c =
    let number = c.as_bytes-number.ensures.value ∙ c.format.ensures.text in
    let taker = c.as_bytes-taker.ensures.value ∙ c.format-2.ensures.text in
    rw (number, taker) at c.write_told.ensures
