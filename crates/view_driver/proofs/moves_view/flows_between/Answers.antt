use Rattle.std.proofs.Common.{get_or, take, []}
use Rattle.command_words.specs.declared.capture_word.CaptureWord.{CaptureWord}
use Rattle.fw_base.specs.declared.port.Direction.TheVariants.{In}
use Rattle.view_driver.specs.Run.{names_of}
use Rattle.view_driver.proofs.FlowsFound.{named_push, names_more}
use Rattle.view_driver.proofs.moves_view.flows_between.Goals as goal

abbrev blank : CaptureWord
blank = record { direction = In; interface = record { ref_ptr = (0, 0); now = [] }; name = record { ref_ptr = (0, 0); now = [] } }

pub loop-capture-preserved : goal.loop-capture-preserved
loop-capture-preserved g c =
    let i = c.loop-capture.capture-index in
    let pushed = named_push (record { pairs = g.L.Library.pairs; faults = g.L.Library.faults; refused = g.L.Library.refused; left = g.L.Reader.Source.left; failures = g.L.Reader.Source.faults })
    c.args.library.now c.loop-capture.library c.open_source.new.library (names_of (take i c.args.captures.now)) c.loop-capture.sources.items
    (get_or c.args.captures.now i blank).name.now c.in_ok-open_source.field-0 c.loop-capture.invariant c.in_ok-open_source.ensures.opened
    in
    rw (names_more c.args.captures.now i blank c.loop-capture-test.true, c.in_ok-push.ensures.items) pushed
