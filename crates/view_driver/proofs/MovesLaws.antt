-- Sums over moves, one move after the other.
use Rattle.std.proofs.Common.{◌≡◌, ℕ, ◌+◌, ◌-◌, ◌<◌, ◌^◌, List, length, get_or, take, min}
use Rattle.report_moves.specs.declared.moves.Move.{Move}
use Rattle.report_page.proofs.ShareLaws.{capped_sum_more}
use Rattle.view_driver.specs.MovesTold.{records_told}

-- the records of one move more
pub records_more : (moves : List Move) (at : ℕ) (d : Move) → at < length moves
    → min (records_told (take at moves) + (get_or moves at d).span.records) (2 ^ 64 - 1) ≡ records_told (take (at + 1) moves)
records_more moves at d within = capped_sum_more (λ (move : Move). move.span.records) (2 ^ 64 - 1) moves at d within
