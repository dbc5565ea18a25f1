use Rattle.std.proofs.Common.{◌≡◌, drop, map}
use Rattle.std.specs.List.{list_all}
use Rattle.run_audit.specs.NothingLeft.{is_given}
use Rattle.run_audit.proofs.left_over.are_given.Given as goal

abbrev pub invariant-loop-one : goal.invariant-loop-one
invariant-loop-one l =
    list_all (is_given (map (λ docket. docket.entries) l.dockets)) (drop l.one-index l.records) ≡ list_all (is_given (map (λ docket. docket.entries) l.dockets)) l.records
