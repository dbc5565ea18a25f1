-- The captures so far were opened.
use Rattle.std.proofs.Common.{take}
use Rattle.view_driver.specs.Run.{OpensNamed, names_of}
use Rattle.view_driver.proofs.moves_view.flows_between.Given as goal

abbrev pub invariant-loop-capture : goal.invariant-loop-capture
invariant-loop-capture g l = OpensNamed (record { pairs = g.L.Library.pairs; faults = g.L.Library.faults; refused = g.L.Library.refused; left = g.L.Reader.Source.left; failures = g.L.Reader.Source.faults })
    l.fn.library l.library (names_of (take l.capture-index l.captures)) l.sources.items
