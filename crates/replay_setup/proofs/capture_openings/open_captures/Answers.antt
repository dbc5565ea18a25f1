use Rattle.std.proofs.Common.{◌+◌, get_or, map, take, drop, []}
use Rattle.command_words.specs.Invocation.{capture_names}
use Rattle.command_words.specs.declared.capture_word.CaptureWord.{CaptureWord}
use Rattle.fw_base.specs.declared.port.Direction.TheVariants.{In}
use Rattle.replay_setup.proofs.Openings.{opens_push, names_split, names_push}
use Rattle.replay_setup.proofs.capture_openings.open_captures.Goals as goal

abbrev blank : CaptureWord
blank = record { direction = In; interface = record { ref_ptr = (0, 0); now = [] }; name = record { ref_ptr = (0, 0); now = [] } }

pub returns-in-Refused : goal.returns-in-Refused
returns-in-Refused g c =
    let i = c.loop-capture.capture-index in
    let x = get_or c.args.captures.now i blank in
    let one = rw c.in-Refused.is at c.in_ok-next.ensures in
    record {
      before = map capture_names (take i c.args.captures.now);
      capture = capture_names x;
      behind = map capture_names (drop (i + 1) c.args.captures.now);
      stands = names_split c.args.captures.now i blank c.loop-capture-test.true;
      named = one.0;
      between = c.loop-capture.library;
      opens = c.loop-capture.invariant;
      refuses = one.1;
    }

pub loop-capture-preserved : goal.loop-capture-preserved
loop-capture-preserved g c =
    let i = c.loop-capture.capture-index in
    let x = get_or c.args.captures.now i blank in
    let one = rw c.in-Opened.is at c.in_ok-next.ensures in
    let pushed = opens_push (record { pairs = g.L.Library.pairs; faults = g.L.Library.faults; refused = g.L.Library.refused; left = g.L.Reader.Source.left; failures = g.L.Reader.Source.faults })
    c.args.library.now c.loop-capture.library c.open_capture.new.library (map capture_names (take i c.args.captures.now)) c.loop-capture.opened.items (capture_names x) c.in-Opened.next
    c.loop-capture.invariant one.0 one.1 in
    rw (names_push c.args.captures.now i blank c.loop-capture-test.true, c.in_ok-push-in-Opened.ensures.items) pushed
