use Rattle.std.proofs.Common.{◌≡◌, drop, map}
use Rattle.std.specs.List.{list_all}
use Rattle.run_audit.specs.NothingLeft.{is_of_judged}
use Rattle.run_audit.proofs.left_over.are_of_judged.Given as goal

abbrev pub invariant-loop-entry : goal.invariant-loop-entry
invariant-loop-entry l =
    list_all (is_of_judged (map (λ docket. docket.entries) l.dockets)) (drop l.entry-index l.entries) ≡ list_all (is_of_judged (map (λ docket. docket.entries) l.dockets)) l.entries
