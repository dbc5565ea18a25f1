use Rattle.std.proofs.Common.{rules}
use Rattle.std.proofs.lemmas.List.Sorted.{IsNonDecreasingBy-from_sort_by_key}
use Rattle.std.proofs.lemmas.Fn.{always_returns_same}
use Rattle.run_audit.specs.Numbering.{number_of}
use Rattle.run_audit.proofs.NumberedLists.{same_of_number}
use Rattle.run_audit.proofs.numbered.in_order.Goals as goal

pub returns : goal.returns
returns c = record {
  rising = IsNonDecreasingBy-from_sort_by_key number_of _ c.in_ok-sort_by_key.ensures.sorted (λ a r q k. search rules);
  same = same_of_number _ _ (c.sort_by_key.ensures.stable number_of (always_returns_same _ _ _ (λ a r q k. search rules)));
}
