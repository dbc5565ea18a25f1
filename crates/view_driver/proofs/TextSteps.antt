-- Texts of spaces, of widths and of moves, one element after the other.
use Rattle.std.proofs.Common.{◌≡◌, ℕ, suc, zero, ◌+◌, ◌-◌, ◌<◌, ◌≤◌, ◌^◌, max, min, None, List, [], ◌∷◌, ◌++◌, length, get_or, take, drop, replicate, codes, slice_index_or, drop-cons, drop_of_length-le, refl, arith}
use Rattle.report_moves.specs.declared.moves.Move.{Move}
use Rattle.report_flows.specs.declared.flow_counts.FlowSpan.{FlowSpan}
use Rattle.view_driver.specs.FlowsText.{flow_records}
use Rattle.view_driver.specs.MovesText.{width_of, moved_text, moved_texts, outcome_at}
use Rattle.report_page.proofs.ShareLaws.{capped_sum_more}

-- the next of the spaces that are left
pub next_space : (count written : ℕ) → written < count → replicate (count - written) 32 ≡ codes " " ++ replicate (count - (written + 1)) 32
next_space count written within =
    let some : count - written ≡ suc (count - (written + 1)) = omega (arith, within) in
    rw some refl

-- none is left
pub no_space : (count written : ℕ) → count ≤ written → replicate {A = ℕ} (count - written) 32 ≡ []
no_space count written past =
    let none : count - written ≡ 0 = omega (arith, past) in
    rw none refl

-- the width of the outcomes that are left, with the next of them
pub next_width : (texts : List (List ℕ)) (moves : List Move) (i : ℕ) (d : Move) → i < length moves
    → width_of texts (drop i moves) ≡ max (length (outcome_at texts (get_or moves i d).was)) (width_of texts (drop (i + 1) moves))
unfolding width_of
next_width texts moves i d within =
    let next : i + 1 ≡ suc i = omega arith in
    rw (drop-cons moves i d within, next) refl

-- the column is at least as wide as its heading
pub width_least : (texts : List (List ℕ)) (moves : List Move) → 4 ≤ width_of texts moves
unfolding width_of
width_least texts [] = omega arith
width_least texts (move ∷ moves) = omega (arith, width_least texts moves)

-- behind the last of them only the heading's width is left
pub no_width : (texts : List (List ℕ)) (moves : List Move) (i : ℕ) → length moves ≤ i → width_of texts (drop i moves) ≡ 4
unfolding width_of
no_width texts moves i past = rw (drop_of_length-le moves {i = i} past) refl

-- the next of the moves that are left, with the flows in its place
move_at : (texts : List (List ℕ)) (width : ℕ) (moves : List Move) (flows : List (List FlowSpan)) (i : ℕ) (d : Move) → i < length moves
    → moved_texts texts width (drop i moves) (drop i flows)
    ≡ moved_text texts width (get_or moves i d) (slice_index_or flows i []) ++ moved_texts texts width (drop (suc i) moves) (drop (suc i) flows)
unfolding moved_texts
move_at texts width [] flows i d within = absurd (omega (arith, within))
move_at texts width (move ∷ moves) [] zero d within = refl
move_at texts width (move ∷ moves) (told ∷ flows) zero d within = refl
move_at texts width (move ∷ moves) [] (suc i) d within =
    let none : drop {A = List FlowSpan} i [] ≡ [] = drop_of_length-le [] {i = i} (omega arith) in
    rw none at (move_at texts width moves [] i d (omega (arith, within)))
move_at texts width (move ∷ moves) (told ∷ flows) (suc i) d within = move_at texts width moves flows i d (omega (arith, within))

-- the same, with places as loops count them
pub next_move : (texts : List (List ℕ)) (width : ℕ) (moves : List Move) (flows : List (List FlowSpan)) (i : ℕ) (d : Move) → i < length moves
    → moved_texts texts width (drop i moves) (drop i flows)
    ≡ moved_text texts width (get_or moves i d) (slice_index_or flows i []) ++ moved_texts texts width (drop (i + 1) moves) (drop (i + 1) flows)
next_move texts width moves flows i d within =
    let next : i + 1 ≡ suc i = omega arith in
    rw next (move_at texts width moves flows i d within)

-- none is left
pub no_move : (texts : List (List ℕ)) (width : ℕ) (moves : List Move) (flows : List (List FlowSpan)) (i : ℕ) → length moves ≤ i
    → moved_texts texts width (drop i moves) flows ≡ []
unfolding moved_texts
no_move texts width moves flows i past = rw (drop_of_length-le moves {i = i} past) refl

-- some move, for places that lists don't have
abbrev pub some_move : Move
some_move = record { capture = 0; was = 0; is = 0; span = record { records = 0; first = 0; last = 0 } }

-- some flow in the same way
abbrev pub some_flow : FlowSpan
some_flow = record { flow = None; span = record { records = 0; first = 0; last = 0 } }

-- the records of one flow more
pub flow_records_more : (flows : List FlowSpan) (at : ℕ) (d : FlowSpan) → at < length flows
    → min (flow_records (take at flows) + (get_or flows at d).span.records) (2 ^ 64 - 1) ≡ flow_records (take (at + 1) flows)
flow_records_more flows at d within = capped_sum_more (λ (told : FlowSpan). told.span.records) (2 ^ 64 - 1) flows at d within
