-- The order in which moves are told, of all of them and of those that moved or stayed.
use Rattle.std.proofs.Common.{◌≡◌, Bool, List, filter, sym, subst}
use Rattle.std.proofs.lemmas.List.Kept.{IsSortedBy-filter}
use Rattle.std.proofs.lemmas.List.Sorted.{ranks_by}
use Rattle.std.specs.Cmp.{IsTotalOrder, nat_cmp_total, then_total, on_total, back_total}
use Rattle.std.specs.Ordering.{is_lt}
use Rattle.report_moves.specs.Moves.{AreInOrder, IsSplit, is_moved, is_stayed, move_cmp}
use Rattle.report_moves.specs.declared.moves.Move.{Move}

move_cmp_total : IsTotalOrder move_cmp
move_cmp_total =
    then_total (then_total (on_total (λ (m : Move). m.span.records) (back_total nat_cmp_total)) (on_total (λ (m : Move). m.capture) nat_cmp_total))
    (on_total (λ (m : Move). m.span.first) nat_cmp_total)

-- those of them that are left stand in order
kept_in_order : (keeps : Move → Bool) (moves : List Move) → AreInOrder moves → AreInOrder (filter keeps moves)
kept_in_order keeps moves order = IsSortedBy-filter (λ x y. is_lt (move_cmp x y)) (ranks_by move_cmp_total (λ (m : Move). m)) keeps moves order

module _ (moves moved stayed : List Move) (split : IsSplit moves moved stayed) (order : AreInOrder moves) where
  pub moved_in_order : AreInOrder moved
  moved_in_order = subst AreInOrder (sym split.moved_is) (kept_in_order is_moved moves order)

  pub stayed_in_order : AreInOrder stayed
  stayed_in_order = subst AreInOrder (sym split.stayed_is) (kept_in_order is_stayed moves order)
