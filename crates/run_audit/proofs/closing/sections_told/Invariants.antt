use Rattle.std.proofs.Common.{◌≡◌, length}
use Rattle.run_audit.specs.Audit.{AreSectionsTold}
use Rattle.run_audit.specs.JudgingValues.{entries_of_each}
use Rattle.run_audit.proofs.closing.sections_told.Given as goal

abbrev pub invariant-loop-docket : goal.invariant-loop-docket
invariant-loop-docket l = record {
  entries : entries_of_each l.sections.dockets.items ≡ entries_of_each l.yielded;
  told : AreSectionsTold l.told 1 l.sections.dockets.items l.sections.trackers.items;
  count : length l.sections.trackers.items ≡ length l.yielded;
}
