use Rattle.std.proofs.Common.{◌∙◌}
use Rattle.view_driver.specs.TroubleText.{no_report_text}
use Rattle.view_driver.proofs.trouble_text.write_no_report.Goals as goal

pub returns : goal.returns
unfolding no_report_text
returns g c =
    let line = c.as_bytes-line.ensures.value ∙ c.format.ensures.text in
    rw (line) at c.write_pieces.ensures
