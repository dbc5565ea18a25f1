use Rattle.std.proofs.Common.{◌-◌, [], arith, get_or, sym}
use Rattle.command_words.specs.Invocation.{capture_names}
use Rattle.command_words.specs.declared.capture_word.CaptureWord.{CaptureWord}
use Rattle.fw_base.specs.declared.port.Direction.TheVariants.{In}
use Rattle.audit_driver.proofs.Conclusions.{named_at}
use Rattle.audit_driver.proofs.concluding.stop.Goals as goal

abbrev blank : CaptureWord
blank = record { direction = In; interface = record { ref_ptr = (0, 0); now = [] }; name = record { ref_ptr = (0, 0); now = [] } }

pub returns : goal.returns
returns c =
    let none = sym c.in-None.ensures in
    let place = c.args.captures - 1 in
    (none, capture_names (get_or c.args.names.now place blank), named_at c.args.names.now place blank (omega (arith, c.requires.some none, c.requires.named none)), c.in_ok-new-in-None.ensures)
