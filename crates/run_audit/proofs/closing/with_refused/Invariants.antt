use Rattle.std.proofs.Common.{◌≡◌, ◌+◌}
use Rattle.std.specs.Prelude.{◌%◌, ◌^◌}
use Rattle.run_audit.proofs.closing.with_refused.Given as goal

abbrev pub invariant-loop : goal.invariant-loop
invariant-loop l = record {
  entries : l.docket.entries ≡ l.fn.docket.entries;
  counted : l.docket.refused ≡ (l.before + l.counter) % 2 ^ 64;
}
