use Rattle.std.proofs.Common.{rules}
use Rattle.std.proofs.lemmas.List.Sorted.{answers_always}
use Rattle.report_moves.specs.declared.moves.Move.{Move}
use Rattle.report_moves.proofs.moves.sort.Goals as goal

pub returns-clause-order : goal.returns-clause-order
returns-clause-order c =
    c.in_ok-sort_by_key.ensures.sorted (λ (m : Move). (record { 0 = m.span.records }, m.capture, m.span.first)) (answers_always _ _ _ (λ f a r g h. search rules))
