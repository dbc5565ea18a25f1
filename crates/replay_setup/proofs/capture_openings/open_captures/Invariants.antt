-- The captures so far were opened.
use Rattle.std.proofs.Common.{map, take}
use Rattle.command_words.specs.Invocation.{capture_names}
use Rattle.replay_setup.specs.Openings.{OpensAll}
use Rattle.replay_setup.proofs.capture_openings.open_captures.Given as goal

abbrev pub invariant-loop-capture : goal.invariant-loop-capture
invariant-loop-capture g l = OpensAll (record { pairs = g.L.Library.pairs; faults = g.L.Library.faults; refused = g.L.Library.refused; left = g.L.Reader.Source.left; failures = g.L.Reader.Source.faults })
    l.fn.library l.library (map capture_names (take l.capture-index l.captures)) l.opened.items
